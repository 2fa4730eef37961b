use Rattle.std.proofs.Common.{◌≡◌}
use Rattle.mpi_call.specs.Operations.{folds_of}
use Rattle.mpi_call.proofs.operations.fold_lists.Given as goal

abbrev pub invariant-loop-place : goal.invariant-loop-place
invariant-loop-place l = l.folds ≡ folds_of l.op l.place l.lists
