use Rattle.std.proofs.Common.{◌≡◌, map, take, not}
use Rattle.std.specs.List.{filter}
use Rattle.std.specs.Ordering.{int_eq}
use Rattle.mpi_call.specs.Needs.{colour_in, undefined_colour}
use Rattle.comms.proofs.colours.defined_colours.Given as goal

abbrev pub invariant-loop-ints : goal.invariant-loop-ints
invariant-loop-ints l = l.colours.items ≡ filter (λ colour. not (int_eq colour undefined_colour)) (map colour_in (take l.ints-index l.inputs))
