use Rattle.std.proofs.Common.{◌≡◌, ℕ, ◌+◌, ◌<◌, ◌≤◌, length, drop, get_or}
use Rattle.collectives.specs.Entrants.{enter_place}
use Rattle.collectives.proofs.entrants.places_of.Given as goal

abbrev pub invariant-loop-place : goal.invariant-loop-place
invariant-loop-place l = record {
  within : l.place ≤ length l.entrants;
  known : (rank : ℕ) → rank < 256 → get_or l.places rank 0 ≡ l.place + enter_place (drop l.place l.entrants) rank;
}

abbrev pub decreases-loop-place : goal.decreases-loop-place
decreases-loop-place l = l.place
