-- Variables on cells that stand.
use Rattle.std.specs.Prelude.{◌-◌, ◌++◌, ℕ, Bool, List, [], ◌∷◌}
use Rattle.c_program.specs.Cells.{Cells}
use Rattle.c_program.specs.State.{State}

-- a variable more of the function that runs
abbrev pub with_cells : List ℕ → Bool → Cells → State → State
with_cells name is_listed cells s = record s {
  slots = s.slots ++ record { depth = s.opens - 1; name = name; is_listed = is_listed; cells = cells } ∷ [];
}
