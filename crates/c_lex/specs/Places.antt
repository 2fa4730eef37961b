-- Lines and columns, both counted from 1, the column in bytes.
use Rattle.std.specs.Prelude.{◌≡◌, ◌≢◌, ◌≤◌, ◌<◌, ◌+◌, ◌-◌, ◌==◌, ◌⊎◌, ℕ, List, slice_index, take, count_by}

-- the line of a place begins there
pub record IsLineBegin (text : List ℕ) (place begin : ℕ) : Type 0 where
  pub before : begin ≤ place
  pub first : (begin ≡ 0) ⊎ (slice_index text (begin - 1) ≡ 10)
  pub same_line : (k : ℕ) → begin ≤ k → k < place → slice_index text k ≢ 10

-- the line is the number of newlines before the place and 1, the column is counted from where the line begins
pub record IsPlaceOf (text : List ℕ) (place line column : ℕ) : Type 0 where
  pub begin : ℕ
  pub begins : IsLineBegin text place begin
  pub line_is : line ≡ count_by (λ byte. byte == 10) (take place text) + 1
  pub column_is : column ≡ place - begin + 1
