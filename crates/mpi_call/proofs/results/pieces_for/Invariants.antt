use Rattle.std.proofs.Common.{◌≡◌, take}
use Rattle.std.specs.List.{flat_map}
use Rattle.mpi_call.specs.Results.{piece_at}
use Rattle.mpi_call.proofs.results.pieces_for.Given as goal

abbrev pub invariant-loop-ints : goal.invariant-loop-ints
invariant-loop-ints l = l.all ≡ flat_map (piece_at l.count l.place) (take l.ints-index l.lists)
