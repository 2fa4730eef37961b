-- The receives and their others as they are listed: the Sends of a sender that a completion is before are its last ones.
use Rattle.std.specs.Prelude.{◌+◌, ℕ, zero, suc, Bool, List, [], ◌∷◌, ◌++◌, Option, Some, None, if◌then◌else◌, slice_get}
use Rattle.mpi_call.specs.declared.call.Call.{Call}
use Rattle.mpi_call.specs.declared.call.Call.TheVariants.{Post}
use Rattle.mpi_call.specs.declared.call.Source.TheVariants.{Any}
use Rattle.mpi_call.specs.Acceptance.{tag_named}
use Rattle.mpi_call.specs.Lists.{count_below}
use Rattle.run_model.specs.declared.event.Event.{Event}
use Rattle.causes.specs.Clocks.{Observed, comes_before}
use Rattle.causes.specs.Positions.{is_start_of, positions}
use Rattle.msg_races.specs.declared.arrival.Arrival.{Arrival}
use Rattle.msg_races.specs.declared.completions.ReceiveCompletion.{ReceiveCompletion}
use Rattle.msg_races.specs.declared.names.Name.{Name}
use Rattle.msg_races.specs.declared.receives.WildcardReceive.{WildcardReceive}
use Rattle.msg_races.specs.declared.sends.Way.{Way}
use Rattle.msg_races.specs.inside.Completions.{completion_of}
use Rattle.msg_races.specs.Names.{same_start}
use Rattle.msg_races.specs.Ways.{goes_way}

-- a name, unless it is the one that was taken
abbrev pub unless_taken : Name → Name → List Name
unless_taken took name = if same_start name took then [] else name ∷ []

-- the names of a sender's Sends at these positions, up to the first that is late
abbrev pub open_names : (ℕ → Bool) → ℕ → List ℕ → Name → List ℕ → List Name
open_names is_late sender starts took [] = []
open_names is_late sender starts took (place ∷ places) =
    if is_late place then [] else unless_taken took (record { rank = sender; start = count_below place starts }) ++ open_names is_late sender starts took places

-- the way of the messages of a sender that a receive accepts
abbrev pub way_from : Arrival → ℕ → Way
way_from arrival sender = record { sender = sender; comm = arrival.comm; receiver = arrival.rank; tag = tag_named arrival.tag }

-- the others of a sender
abbrev pub racing_from : Observed → Arrival → ℕ → List Name
racing_from seen arrival sender =
    open_names (comes_before seen arrival.at) sender (positions (is_start_of sender) 0 seen.events) arrival.took (positions (goes_way (way_from arrival sender)) 0 seen.events)

-- what a function gives for the ranks below a number
abbrev pub lists_below : {A : Type 0} → (ℕ → List A) → ℕ → List A
lists_below lists zero = []
lists_below lists (suc rank) = lists_below lists rank ++ lists rank

-- the others of the senders below a number
abbrev pub racing_below : Observed → Arrival → ℕ → List Name
racing_below seen arrival ranks = lists_below (racing_from seen arrival) ranks

-- the receive with its others
abbrev pub raced_receive : Observed → Arrival → WildcardReceive
raced_receive seen arrival =
    record { rank = arrival.rank; start = arrival.start; took = arrival.took; others = racing_below seen arrival seen.ranks }

-- a start with this call is a wildcard receive that was completed
abbrev pub arrival_by : Name → Call → Option ReceiveCompletion → Option Arrival
arrival_by name (Post comm Any tag room) (Some completion) =
    Some (record { rank = name.rank; start = name.start; comm = comm; tag = tag; at = completion.at; took = completion.took })
arrival_by name call completion = None

-- the same, of an event
abbrev pub arrival_in : Name → Option Event → Option ReceiveCompletion → Option Arrival
arrival_in name None completion = None
arrival_in name (Some event) completion = arrival_by name event.call completion

-- the same, of the start at a position
abbrev pub arrival_at : List Event → Name → ℕ → Option Arrival
arrival_at events name place = arrival_in name (slice_get events place) (completion_of events name)

-- the receive of an arrival, if there is one
abbrev pub received : Observed → Option Arrival → List WildcardReceive
received seen None = []
received seen (Some arrival) = raced_receive seen arrival ∷ []

-- the receives among a rank's starts at these positions, numbered from `number` on
abbrev pub receives_at : Observed → ℕ → ℕ → List ℕ → List WildcardReceive
receives_at seen rank number [] = []
receives_at seen rank number (place ∷ places) =
    received seen (arrival_at seen.events (record { rank = rank; start = number }) place) ++ receives_at seen rank (number + 1) places

-- the receives of a rank
abbrev pub receives_of : Observed → ℕ → List WildcardReceive
receives_of seen rank = receives_at seen rank 0 (positions (is_start_of rank) 0 seen.events)

-- the receives of the ranks below a number
abbrev pub receives_below : Observed → ℕ → List WildcardReceive
receives_below seen ranks = lists_below (receives_of seen) ranks
