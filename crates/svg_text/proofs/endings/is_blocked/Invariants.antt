use Rattle.std.proofs.Common.{◌≡◌, length}
use Rattle.svg_text.specs.Endings.{is_blocked}
use Rattle.svg_text.proofs.endings.is_blocked.Given as goal

abbrev pub invariant-loop-rest : goal.invariant-loop-rest
invariant-loop-rest l = is_blocked l.rest l.rank ≡ is_blocked l.all l.rank

abbrev pub decreases-loop-rest : goal.decreases-loop-rest
decreases-loop-rest l = length l.rest
