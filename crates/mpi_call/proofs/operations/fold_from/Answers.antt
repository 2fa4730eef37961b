use Rattle.std.proofs.Common.{arith}
use Rattle.std.proofs.lemmas.Int.{to_z-of_z}
use Rattle.std.proofs.lemmas.List.Sums.{fold_more}
use Rattle.mpi_call.proofs.operations.fold_from.Goals as goal

pub loop-ints-preserved : goal.loop-ints-preserved
loop-ints-preserved c = grind (arith, to_z-of_z, fold_more)
