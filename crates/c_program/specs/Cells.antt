-- Ranges of cells.
use Rattle.std.specs.Prelude.{ℕ}

-- elements in the stack of cells: the first one's cell, how many they are, and how many cells each has
pub record Cells : Type 0 where
  pub from : ℕ
  pub length : ℕ
  pub width : ℕ
