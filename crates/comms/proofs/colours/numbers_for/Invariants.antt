use Rattle.std.proofs.Common.{◌≡◌, map, take}
use Rattle.mpi_call.specs.Needs.{colour_in}
use Rattle.comms.specs.Colours.{colour_number}
use Rattle.comms.proofs.colours.numbers_for.Given as goal

abbrev pub invariant-loop-ints : goal.invariant-loop-ints
invariant-loop-ints l = l.numbers ≡ map (λ ints. colour_number l.colours l.first (colour_in ints)) (take l.ints-index l.inputs)
