-- The pairs of the events, by the names of their starts.
use Rattle.std.specs.Prelude.{◌≡◌, ℕ, List, Option, Some, None, if◌then◌else◌, get_or, length}
use Rattle.std.specs.Map.{lookup}
use Rattle.run_model.specs.declared.event.Event.{Event}
use Rattle.run_model.specs.Pairs.{Name, name_at, pairs_of, partner_of, same_name}
use Rattle.causes.specs.declared.pair_table.PairTable.{PairTable}

-- the name of the start at each position
pub record AreStartNames (events : List Event) (names : List (Option Name)) : Type 0 where
  pub as_many : length names ≡ length events
  pub each : (at : ℕ) → get_or names at None ≡ name_at events at

-- the other start of each pair
abbrev pub AreOthers : List (Name × Name) → List (Name × Name) → Type 0
AreOthers pairs table = (name : Name) → lookup (same_name name) table ≡ partner_of pairs name

-- the names of the starts, and the pairs, of these events
pub record IsPairTable (events : List Event) (table : PairTable) : Type 0 where
  pub names : AreStartNames events table.names.items
  pub others : AreOthers (pairs_of events) table.others.entries

-- the first name if there is one, else the second
abbrev pub or_name : Option Name → Option Name → Option Name
or_name None other = other
or_name (Some name) other = Some name

-- the other start of one more name, where it had none
abbrev pub AddsOther : Name → Name → List (Name × Name) → List (Name × Name) → Type 0
AddsOther one other old new =
    (name : Name) → lookup (same_name name) new ≡ or_name (lookup (same_name name) old) (if same_name one name then Some other else None)
