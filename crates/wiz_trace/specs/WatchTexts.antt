-- The text of the changes of a variable.
use Rattle.std.specs.Prelude.{ℕ, ℤ, List, ◌++◌, Option, Some, None, codes, flat_map, length}
use Rattle.replay_views.specs.declared.changes.Change.{Change}
use Rattle.srr_log.specs.EntryText.{ints_text}
use Rattle.wiz_base.specs.Decimals.{decimal_text}

-- the values with commas between them · - where no such variable stands
abbrev pub values_text : Option (List ℤ) → List ℕ
values_text None = codes "-"
values_text (Some values) = ints_text values

-- OLD -> NEW
abbrev pub changed_values_text : Option (List ℤ) → Option (List ℤ) → List ℕ
changed_values_text old new = values_text old ++ codes " -> " ++ values_text new ++ codes "\n"

-- R:K NAME OLD -> NEW
abbrev pub change_text : ℕ → List ℕ → Change → List ℕ
change_text rank name change =
    decimal_text rank ++ codes ":" ++ decimal_text change.number ++ codes " " ++ name ++ codes " " ++ changed_values_text change.old change.new

-- changes N
abbrev pub count_text : ℕ → List ℕ
count_text count = codes "changes " ++ decimal_text count ++ codes "\n"

-- a line for each change, and how many there are
abbrev pub watch_text : ℕ → List ℕ → List Change → List ℕ
watch_text rank name changes = flat_map (change_text rank name) changes ++ count_text (length changes)
