use Rattle.std.proofs.Common.{◌≡◌, ◌++◌, length}
use Rattle.explanation_text.specs.OrderTexts.{order_text}
use Rattle.explanation_text.proofs.order.push_order.Given as goal

abbrev pub invariant-loop-rest : goal.invariant-loop-rest
invariant-loop-rest l = l.out ++ order_text l.rest l.left ≡ l.initial.out ++ order_text l.initial.rest l.initial.left

abbrev pub decreases-loop-rest : goal.decreases-loop-rest
decreases-loop-rest l = length l.rest
