-- The innermost variable of a name, by its cells.
use Rattle.std.specs.Prelude.{ℕ, List, [], ◌∷◌, Option, Some, ◌&&◌, if◌then◌else◌, nat_eq}
use lib.Pointwise.{pointwise}
use Rattle.c_program.specs.Cells.{Cells}
use Rattle.c_program.specs.State.{Slot}

-- the cells of the last of some variables that is listed and has the name; those that were found before where there is none
abbrev pub cells_named : List ℕ → Option Cells → List Slot → Option Cells
cells_named name found [] = found
cells_named name found (slot ∷ slots) =
    cells_named name (if slot.is_listed && pointwise nat_eq name slot.name then Some slot.cells else found) slots
