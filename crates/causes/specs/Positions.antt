-- Positions of events: of a rank's starts by number, of its Enters of an instance, of the other start of a pair.
use Rattle.std.specs.Prelude.{ℕ, List, [], ◌∷◌, ◌+◌, Option, Some, None, Bool, false, ◌&&◌, ◌==◌, if◌then◌else◌, length, option_and_then, option_to_list, slice_get, take}
use Rattle.run_model.specs.declared.event.Event.{Event}
use Rattle.run_model.specs.Communicators.{is_enter_of}
use Rattle.run_model.specs.Pairs.{Name, name_at, pairs_of, partner_of}
use Rattle.run_model.specs.Views.{is_start}

-- the positions of the events that pass a test, rising; the first event has position `at`
abbrev pub positions : (Event → Bool) → ℕ → List Event → List ℕ
positions test at [] = []
positions test at (event ∷ events) = if test event then at ∷ positions test (at + 1) events else positions test (at + 1) events

-- an event of the rank
abbrev pub is_event_of : ℕ → Event → Bool
is_event_of rank event = event.rank == rank

-- a start of the rank
abbrev pub is_start_of : ℕ → Event → Bool
is_start_of rank event = is_start (event.call, event.reply) && (event.rank == rank)

-- the position is this one
abbrev pub is_at_position : Option ℕ → ℕ → Bool
is_at_position None at = false
is_at_position (Some other) at = other == at

-- the number of an event of the rank among its events, by those before it
abbrev pub next_number : ℕ → List Event → ℕ
next_number rank before = length (positions (is_event_of rank) 0 before)

-- the position of a rank's start with this number
abbrev pub start_position : List Event → ℕ → ℕ → Option ℕ
start_position events rank number = slice_get (positions (is_start_of rank) 0 events) number

-- the position of a rank's Enter of an instance: its instances on a communicator are numbered from 0
abbrev pub enter_position : List Event → ℕ → ℕ → ℕ → Option ℕ
enter_position events rank comm instance = slice_get (positions (is_enter_of rank comm) 0 events) instance

-- the instance of a rank's Enter at a position: how many of its Enters on the communicator stand before it
abbrev pub enter_instance_at : List Event → ℕ → ℕ → ℕ → ℕ
enter_instance_at events rank comm at = length (positions (is_enter_of rank comm) 0 (take at events))

-- the position of the start that a name names
abbrev pub position_of : List Event → Name → Option ℕ
position_of events name = start_position events name.0 name.1

-- the name of the other start of the pair that the start at a position is in
abbrev pub partner_at : List Event → ℕ → Option Name
partner_at events at = option_and_then (partner_of (pairs_of events)) (name_at events at)

-- the position of that other start, whether an event keeps it as its mate or the two met later
abbrev pub mates_of : List Event → ℕ → List ℕ
mates_of events at = option_to_list (option_and_then (position_of events) (partner_at events at))
