use Rattle.std.proofs.Common.{◌≡◌}
use Rattle.mpi_call.proofs.SplitLemmas.{chosen}
use Rattle.mpi_call.proofs.splits.candidates.Given as goal

abbrev pub invariant-loop-place : goal.invariant-loop-place
invariant-loop-place l = l.found.items ≡ chosen l.colour l.members l.inputs l.place
