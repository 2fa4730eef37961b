use Rattle.std.proofs.Common.{◌≡◌, ◌++◌, length}
use Rattle.explanation_text.specs.OrderTexts.{turns_text}
use Rattle.explanation_text.proofs.order.turns_text.Given as goal

abbrev pub invariant-loop-rest : goal.invariant-loop-rest
invariant-loop-rest l = l.out ++ turns_text l.rest ≡ turns_text l.fn.turns

abbrev pub decreases-loop-rest : goal.decreases-loop-rest
decreases-loop-rest l = length l.rest
