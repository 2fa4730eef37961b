use Rattle.std.proofs.Common.{arith}
use Rattle.std.proofs.lemmas.Int.{to_z-of_z}
use Rattle.mpi_call.proofs.FoldLemmas.{folds_of-more}
use Rattle.mpi_call.proofs.operations.fold_lists.Goals as goal

pub loop-place-preserved : goal.loop-place-preserved
loop-place-preserved c = grind (arith, to_z-of_z, folds_of-more)
