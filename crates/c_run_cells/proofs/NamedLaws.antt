-- The innermost variable of a name has the last cells with this name.
use Rattle.std.proofs.Common.{◌≡◌, ◌∙◌, ◌*◌, ℕ, ℤ, List, [], ◌∷◌, Option, Some, None, ap, inl, inr, nat_eq, refl}
use Rattle.std.specs.Prelude.{option_map}
use lib.Pointwise.{pointwise}
use Rattle.c_program.specs.Cells.{Cells}
use Rattle.c_program.specs.Courses.{listed_of}
use Rattle.c_program.specs.State.{Slot, State, values_from}
use Rattle.rank_watch.specs.Innermost.{innermost_values, or_values}
use Rattle.run_model.proofs.Views.{test_cases}
use Rattle.c_run_cells.specs.inside.Named.{cells_named}

abbrev values_in : State → Cells → List ℤ
values_in s cells = values_from cells.from (cells.length * cells.width) s

keep_some : (o old : Option (List ℤ)) (values : List ℤ) → or_values o (Some values) ≡ or_values (or_values o (Some values)) old
keep_some None old values = refl
keep_some (Some found) old values = refl

keep_none : (o old : Option (List ℤ)) → or_values o old ≡ or_values (or_values o None) old
keep_none None old = refl
keep_none (Some found) old = refl

none_else : (o : Option (List ℤ)) → or_values o None ≡ o
none_else None = refl
none_else (Some found) = refl

cells_are : (s : State) (name : List ℕ) (found : Option Cells) (slots : List Slot)
    → option_map (values_in s) (cells_named name found slots) ≡ or_values (innermost_values name (listed_of s slots)) (option_map (values_in s) found)
cells_are s name found [] = refl
cells_are s name found (slot ∷ slots) =
    elim (test_cases slot.is_listed) [
      | inl listed ↦ elim (test_cases (pointwise nat_eq name slot.name)) [
        | inl named ↦
            rw (listed, named)
            (cells_are s name (Some slot.cells) slots ∙ keep_some (innermost_values name (listed_of s slots)) (option_map (values_in s) found) (values_in s slot.cells))
        | inr other ↦
            rw (listed, other) (cells_are s name found slots ∙ keep_none (innermost_values name (listed_of s slots)) (option_map (values_in s) found))
      ]
      | inr hidden ↦ rw hidden (cells_are s name found slots)
    ]

pub values_are : (s : State) (name : List ℕ) (slots : List Slot) (found : Option Cells) → found ≡ cells_named name None slots
    → option_map (values_in s) found ≡ innermost_values name (listed_of s slots)
values_are s name slots found is =
    ap (option_map (values_in s)) is ∙ cells_are s name None slots ∙ none_else (innermost_values name (listed_of s slots))
