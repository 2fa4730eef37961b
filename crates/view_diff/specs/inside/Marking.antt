-- How the open receives are found: by a mark for each start that was taken.
use Rattle.std.specs.Prelude.{ℕ, zero, suc, List, [], ◌∷◌, Bool, true, not, ◌&&◌, if◌then◌else◌}
use Rattle.mpi_call.specs.declared.call.Call.{Call}
use Rattle.mpi_call.specs.Calls.{is_wildcard}
use Rattle.run_model.specs.Views.{View, taken_of}

-- the start with this number is marked, where there is one
abbrev pub with_mark : List Bool → ℕ → List Bool
with_mark [] number = []
with_mark (mark ∷ marks) zero = true ∷ marks
with_mark (mark ∷ marks) (suc number) = mark ∷ with_mark marks number

-- the starts with these numbers are marked
abbrev pub with_marks : List Bool → List ℕ → List Bool
with_marks marks [] = marks
with_marks marks (number ∷ numbers) = with_marks (with_mark marks number) numbers

-- the starts that were taken in a view are marked
abbrev pub with_taken_marks : List Bool → View → List Bool
with_taken_marks marks [] = marks
with_taken_marks marks (seen ∷ view) = with_taken_marks (with_marks marks (taken_of (seen ∷ []))) view

-- the receives from any source without a mark, with their numbers; the first start has this number
abbrev pub unmarked_from : ℕ → List Call → List Bool → List (ℕ × Call)
unmarked_from number [] marks = []
unmarked_from number (call ∷ calls) [] = []
unmarked_from number (call ∷ calls) (mark ∷ marks) =
    if is_wildcard call && not mark then (number, call) ∷ unmarked_from (suc number) calls marks else unmarked_from (suc number) calls marks
