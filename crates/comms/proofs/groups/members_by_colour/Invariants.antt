use Rattle.std.proofs.Common.{◌≡◌, map, take}
use Rattle.mpi_call.specs.Made.{split_into}
use Rattle.comms.proofs.groups.members_by_colour.Given as goal

abbrev pub invariant-loop-colour : goal.invariant-loop-colour
invariant-loop-colour l = l.groups.items ≡ map (λ colour. split_into colour l.members l.inputs) (take l.colour-index l.colours)
