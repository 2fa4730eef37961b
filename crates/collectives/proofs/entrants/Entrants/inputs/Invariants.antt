use Rattle.std.proofs.Common.{◌≡◌, map, take}
use Rattle.collectives.specs.Entrants.{ints_by}
use Rattle.collectives.proofs.entrants.Entrants.inputs.Given as goal

abbrev pub invariant-loop-member : goal.invariant-loop-member
invariant-loop-member l = l.inputs ≡ map (ints_by l.entrants) (take l.member-index l.members)
