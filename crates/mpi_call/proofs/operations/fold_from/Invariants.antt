use Rattle.std.proofs.Common.{◌≡◌, pos, take, get_or}
use Rattle.std.specs.List.{fold}
use Rattle.mpi_call.specs.Operations.{combined}
use Rattle.mpi_call.proofs.operations.fold_from.Given as goal

abbrev pub invariant-loop-ints : goal.invariant-loop-ints
invariant-loop-ints l =
    l.total ≡ fold (λ total ints. combined l.op total (get_or ints l.place (pos 0))) l.first (take l.ints-index l.others)
