use Rattle.std.proofs.Common.{◌≡◌, None, length}
use Rattle.run_model.specs.Communicators.{known_after}
use Rattle.run_model.proofs.communicators.find_made.Given as goal

abbrev pub invariant-loop-rest : goal.invariant-loop-rest
invariant-loop-rest l = known_after l.comm None l.rest ≡ known_after l.comm None l.view

abbrev pub decreases-loop-rest : goal.decreases-loop-rest
decreases-loop-rest l = length l.rest
