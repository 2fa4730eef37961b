use Rattle.std.proofs.Common.{◌≡◌, ◌+◌, ◌<◌, ◌^◌, length}
use Rattle.run_model.specs.Due.{total_size}
use Rattle.mpi_machine.specs.Courses.{capped}
use Rattle.explore.proofs.quiet.total_size.Given as goal

abbrev pub invariant-loop-rest : goal.invariant-loop-rest
invariant-loop-rest l = (l.size < 2 ^ 64) × (capped (l.size + total_size l.rest) ≡ capped (total_size l.events))

abbrev pub decreases-loop-rest : goal.decreases-loop-rest
decreases-loop-rest l = length l.rest
