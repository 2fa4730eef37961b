-- The greater of two numbers for each rank.
use Rattle.std.specs.Prelude.{◌≡◌, ℕ, List, length, max, slice_index}

-- place by place the greater of the two numbers
pub record AreGreater (old other new : List ℕ) : Type 0 where
  pub as_many : length new ≡ length old
  pub each : (rank : ℕ) → slice_index new rank ≡ max (slice_index old rank) (slice_index other rank)
