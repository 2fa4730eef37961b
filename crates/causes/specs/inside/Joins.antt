-- Joins of clocks.
use Rattle.std.specs.Prelude.{◌≡◌, ◌<◌, ◌≤◌, ◌⊎◌, ℕ, List, Some, length, slice_get, slice_index}
use Rattle.mpi_call.specs.Lists.{IsIn}

-- each of these clocks has as many numbers as this one
abbrev pub AreAsWide : List (List ℕ) → List ℕ → Type 0
AreAsWide clocks own = (at : ℕ) (clock : List ℕ) → slice_get clocks at ≡ Some clock → length clock ≡ length own

-- one of the clocks at these positions has a greater number of the rank
pub record HasGreaterClock (clocks : List (List ℕ)) (places : List ℕ) (rank count : ℕ) : Type 0 where
  pub at : ℕ
  pub clock : List ℕ
  pub placed : IsIn at places
  pub there : slice_get clocks at ≡ Some clock
  pub above : count < slice_index clock rank

-- the same, of a clock and of those at these positions
pub record IsJoinOfAll (old : List ℕ) (clocks : List (List ℕ)) (places : List ℕ) (new : List ℕ) : Type 0 where
  pub as_many : length new ≡ length old
  pub from : (rank count : ℕ) → count < slice_index new rank → (count < slice_index old rank) ⊎ HasGreaterClock clocks places rank count
  pub first : (rank : ℕ) → slice_index old rank ≤ slice_index new rank
  pub each : (at : ℕ) (clock : List ℕ) → IsIn at places → slice_get clocks at ≡ Some clock → (rank : ℕ) → slice_index clock rank ≤ slice_index new rank
