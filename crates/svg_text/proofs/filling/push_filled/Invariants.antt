use Rattle.std.proofs.Common.{◌≡◌, ◌++◌, length}
use Rattle.svg_text.specs.Filling.{filled_text}
use Rattle.svg_text.proofs.filling.push_filled.Given as goal

abbrev pub invariant-loop-rest : goal.invariant-loop-rest
invariant-loop-rest l = l.out ++ filled_text l.rest l.left ≡ l.initial.out ++ filled_text l.text l.parts

abbrev pub decreases-loop-rest : goal.decreases-loop-rest
decreases-loop-rest l = length l.rest
