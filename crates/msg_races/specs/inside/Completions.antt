-- The completions of receives, by the names of the receives.
use Rattle.std.specs.Prelude.{◌≡◌, ◌+◌, ℕ, List, [], ◌∷◌, Option, Some, None, if◌then◌else◌, slice_index}
use Rattle.std.specs.Map.{lookup}
use Rattle.mpi_call.specs.declared.call.Call.{Call}
use Rattle.mpi_call.specs.declared.reply.Got.{Got}
use Rattle.mpi_call.specs.declared.reply.Got.TheVariants.{Message}
use Rattle.mpi_call.specs.declared.reply.Item.{Item}
use Rattle.mpi_call.specs.declared.reply.Reply.{Reply}
use Rattle.mpi_call.specs.declared.reply.Reply.TheVariants.{Took}
use Rattle.mpi_call.specs.Calls.{listed_by}
use Rattle.run_model.specs.declared.event.Event.{Event}
use Rattle.msg_races.specs.declared.completions.ReceiveCompletion.{ReceiveCompletion}
use Rattle.msg_races.specs.declared.names.Name.{Name}
use Rattle.msg_races.specs.Names.{same_start}

-- the completion of the receive `name`, after the rank's start `number` gave this at position `at`
abbrev pub completion_after_got : Name → ℕ → ℕ → ℕ → Got → Option ReceiveCompletion → Option ReceiveCompletion
completion_after_got name at rank number (Message source start tag ints) known =
    if same_start (record { rank = rank; start = number }) name then Some (record { at = at; took = record { rank = source; start = start } }) else known
completion_after_got name at rank number got known = known

-- the same, after these items
abbrev pub completion_after_items : Name → ℕ → ℕ → List ℕ → List Item → Option ReceiveCompletion → Option ReceiveCompletion
completion_after_items name at rank starts [] known = known
completion_after_items name at rank starts (item ∷ items) known =
    completion_after_items name at rank starts items (completion_after_got name at rank (slice_index starts item.index) item.got known)

-- the same, after a reply
abbrev pub completion_after_reply : Name → ℕ → ℕ → Call → Reply → Option ReceiveCompletion → Option ReceiveCompletion
completion_after_reply name at rank call (Took items) known = completion_after_items name at rank (listed_by call) items known
completion_after_reply name at rank call reply known = known

-- the same, after these events, the first of which has position `at`
abbrev pub after_events : Name → ℕ → List Event → Option ReceiveCompletion → Option ReceiveCompletion
after_events name at [] known = known
after_events name at (event ∷ events) known =
    after_events name (at + 1) events (completion_after_reply name at event.rank event.call event.reply known)

-- the completion of a receive
abbrev pub completion_of : List Event → Name → Option ReceiveCompletion
completion_of events name = after_events name 0 events None

-- the completions of the receives of these events
pub record AreCompletions (events : List Event) (table : List (Name × ReceiveCompletion)) : Type 0 where
  pub each : (name : Name) → lookup (same_start name) table ≡ completion_of events name
