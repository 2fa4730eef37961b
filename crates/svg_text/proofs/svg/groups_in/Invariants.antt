use Rattle.std.proofs.Common.{◌≡◌, length, max}
use Rattle.svg_text.specs.SvgTexts.{groups_in}
use Rattle.svg_text.proofs.svg.groups_in.Given as goal

abbrev pub invariant-loop-rest : goal.invariant-loop-rest
invariant-loop-rest l = max l.most (groups_in l.rest) ≡ groups_in l.groups

abbrev pub decreases-loop-rest : goal.decreases-loop-rest
decreases-loop-rest l = length l.rest
