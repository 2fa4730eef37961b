use Rattle.std.proofs.Common.{arith}
use Rattle.collectives.proofs.EntrantLemmas.{places_at_first}
use Rattle.collectives.proofs.entrants.places_of.Goals as goal

pub loop-place-init : goal.loop-place-init
loop-place-init c = record { within = omega arith; known = places_at_first c.args.entrants.now }
