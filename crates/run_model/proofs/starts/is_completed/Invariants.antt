use Rattle.std.proofs.Common.{◌≡◌, length}
use Rattle.mpi_call.specs.Collectives.{is_member}
use Rattle.run_model.specs.Views.{items_taken}
use Rattle.run_model.proofs.starts.is_completed.Given as goal

abbrev pub invariant-loop-rest : goal.invariant-loop-rest
invariant-loop-rest l = is_member (items_taken l.starts l.rest) l.number ≡ is_member (items_taken l.starts l.items) l.number

abbrev pub decreases-loop-rest : goal.decreases-loop-rest
decreases-loop-rest l = length l.rest
