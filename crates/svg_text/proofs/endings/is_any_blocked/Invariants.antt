use Rattle.std.proofs.Common.{◌≡◌, length}
use Rattle.std.specs.List.{list_any}
use Rattle.svg_text.specs.Endings.{is_blocked}
use Rattle.svg_text.proofs.endings.is_any_blocked.Given as goal

abbrev pub invariant-loop-rest : goal.invariant-loop-rest
invariant-loop-rest l = list_any (is_blocked l.all) l.rest ≡ list_any (is_blocked l.all) l.ranks

abbrev pub decreases-loop-rest : goal.decreases-loop-rest
decreases-loop-rest l = length l.rest
