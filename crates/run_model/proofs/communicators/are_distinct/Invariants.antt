use Rattle.std.proofs.Common.{◌≡◌, length}
use Rattle.mpi_call.specs.Collectives.{is_distinct}
use Rattle.run_model.proofs.communicators.are_distinct.Given as goal

abbrev pub invariant-loop-rest : goal.invariant-loop-rest
invariant-loop-rest l = is_distinct l.rest ≡ is_distinct l.members

abbrev pub decreases-loop-rest : goal.decreases-loop-rest
decreases-loop-rest l = length l.rest
