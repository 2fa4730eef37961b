use Rattle.std.proofs.Common.{◌≡◌, length}
use Rattle.mpi_call.specs.Collectives.{is_member}
use Rattle.run_model.specs.Views.{taken_of}
use Rattle.run_model.proofs.starts.is_taken.Given as goal

abbrev pub invariant-loop-rest : goal.invariant-loop-rest
invariant-loop-rest l = is_member (taken_of l.rest) l.number ≡ is_member (taken_of l.view) l.number

abbrev pub decreases-loop-rest : goal.decreases-loop-rest
decreases-loop-rest l = length l.rest
