use Rattle.std.proofs.Common.{◌≡◌, length}
use Rattle.explore.specs.inside.RaceFlags.{race_in}
use Rattle.explore.proofs.races.Races.race_in.Given as goal

abbrev pub invariant-loop-rest : goal.invariant-loop-rest
invariant-loop-rest l = race_in l.self l.rest ≡ race_in l.self l.events

abbrev pub decreases-loop-rest : goal.decreases-loop-rest
decreases-loop-rest l = length l.rest
