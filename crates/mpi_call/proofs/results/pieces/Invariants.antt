use Rattle.std.proofs.Common.{◌≡◌, take}
use Rattle.mpi_call.specs.Results.{pieces_of}
use Rattle.mpi_call.proofs.results.pieces.Given as goal

abbrev pub invariant-loop-ints : goal.invariant-loop-ints
invariant-loop-ints l = l.all ≡ pieces_of (take l.ints-index l.lists)
