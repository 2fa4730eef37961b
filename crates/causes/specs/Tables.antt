-- Tables beside the events: positions by keys, and the communicators that each rank knows.
use Rattle.std.specs.Prelude.{◌≡◌, ℕ, List, Option, None, Bool, false, ◌&&◌, ◌==◌, if◌then◌else◌}
use Rattle.std.specs.Map.{lookup}
use Rattle.mpi_call.specs.declared.call.Call.{Call}
use Rattle.mpi_call.specs.declared.call.Call.TheVariants.{Enter}
use Rattle.run_model.specs.declared.event.Event.{Event}
use Rattle.run_model.specs.Communicators.{is_enter_of, known_after, or_members}
use Rattle.run_model.specs.Views.{is_start, view_of}
use Rattle.causes.specs.declared.key.Key.{Key}
use Rattle.causes.specs.Keys.{enters_key, events_key, same_key, starts_key}
use Rattle.causes.specs.PositionTables.{AddsPositionBy, positions_by}
use Rattle.causes.specs.Positions.{is_event_of, is_start_of, positions}

-- the positions that a table has for a key
abbrev pub positions_of_key : List (Key × List ℕ) → Key → List ℕ
positions_of_key = positions_by same_key

-- one position more for the keys that pass a test, and none more for another
abbrev pub AddsPosition : (Key → Bool) → ℕ → List (Key × List ℕ) → List (Key × List ℕ) → Type 0
AddsPosition = AddsPositionBy same_key

-- the positions of each rank's events, starts and Enters
pub record IsPlaceTable (events : List Event) (table : List (Key × List ℕ)) : Type 0 where
  pub own : (rank : ℕ) → positions_of_key table (events_key rank) ≡ positions (is_event_of rank) 0 events
  pub starts : (rank : ℕ) → positions_of_key table (starts_key rank) ≡ positions (is_start_of rank) 0 events
  pub enters : (rank comm : ℕ) → positions_of_key table (enters_key rank comm) ≡ positions (is_enter_of rank comm) 0 events

-- the members of each communicator that a rank's replies made
pub record IsKnownTable (events : List Event) (table : List (Key × List ℕ)) : Type 0 where
  pub each : (rank comm : ℕ) → lookup (same_key (enters_key rank comm)) table ≡ known_after comm None (view_of events rank)

-- whether a key is that of a start's rank
abbrev pub adds_start : Event → Key → Bool
adds_start event key = is_start (event.call, event.reply) && same_key (starts_key event.rank) key

-- whether a key is that of an Enter's rank and communicator
abbrev pub adds_enter_by : ℕ → Call → Key → Bool
adds_enter_by rank (Enter comm kind root op count ints) key = same_key (enters_key rank comm) key
adds_enter_by rank call key = false

-- the same, of an Enter that was made
abbrev pub adds_enter : Event → Key → Bool
adds_enter event key = is_start (event.call, event.reply) && adds_enter_by event.rank event.call key

-- what is learned of a rank's communicators; the first members of a number stay
abbrev pub Learns : ℕ → (ℕ → Option (List ℕ)) → List (Key × List ℕ) → List (Key × List ℕ) → Type 0
Learns rank made old new =
    (other comm : ℕ) → lookup (same_key (enters_key other comm)) new ≡ or_members (lookup (same_key (enters_key other comm)) old) (if rank == other then made comm else None)
