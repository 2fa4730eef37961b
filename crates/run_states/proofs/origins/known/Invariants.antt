use Rattle.std.proofs.Common.{◌≡◌, None, length}
use Rattle.run_model.specs.Communicators.{known_after}
use Rattle.run_model.specs.Views.{view_of}
use Rattle.run_states.proofs.origins.known.Given as goal

abbrev pub invariant-loop-rest : goal.invariant-loop-rest
invariant-loop-rest l = known_after l.comm None (view_of l.rest l.rank) ≡ known_after l.comm None (view_of l.events l.rank)

abbrev pub decreases-loop-rest : goal.decreases-loop-rest
decreases-loop-rest l = length l.rest
