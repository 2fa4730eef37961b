-- Which starts are paired.
use Rattle.std.specs.Prelude.{ℕ, List, [], Bool, false}
use Rattle.std.specs.List.{slice_index_or}
use Rattle.msg_races.specs.declared.names.Name.{Name}

-- a rank's start with this number; one behind the end is not paired
abbrev pub is_marked : List Bool → ℕ → Bool
is_marked marks start = slice_index_or marks start false

-- a start with this name, by the marks of each rank
abbrev pub is_paired_in : List (List Bool) → Name → Bool
is_paired_in ranks name = is_marked (slice_index_or ranks name.rank []) name.start
