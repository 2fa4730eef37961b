use Rattle.std.proofs.Common.{◌≡◌, length}
use Rattle.run_model.specs.Communicators.{made_in_items}
use Rattle.run_model.proofs.communicators.made_in_items.Given as goal

abbrev pub invariant-loop-rest : goal.invariant-loop-rest
invariant-loop-rest l = made_in_items l.comm l.rest ≡ made_in_items l.comm l.items

abbrev pub decreases-loop-rest : goal.decreases-loop-rest
decreases-loop-rest l = length l.rest
