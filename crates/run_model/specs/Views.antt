-- What ranks have seen, and the starts in it.
use Rattle.std.specs.Prelude.{ℕ, List, [], ◌∷◌, ◌++◌, Option, Some, None, Bool, true, false, ◌&&◌, ◌==◌, if◌then◌else◌, map, slice_get, slice_index}
use Rattle.mpi_call.specs.declared.call.Call.{Call}
use Rattle.mpi_call.specs.declared.reply.Item.{Item}
use Rattle.mpi_call.specs.declared.reply.Reply.{Reply}
use Rattle.mpi_call.specs.declared.reply.Reply.TheVariants.{Done, Took}
use Rattle.mpi_call.specs.Calls.{is_starting, listed_by}
use Rattle.run_model.specs.declared.event.Event.{Event}

-- a history, and the number of events that can be added to it without taking memory
pub record Kept : Type 0 where
  pub events : List Event
  pub spare : ℕ

-- what a rank has seen: its calls in order, each with its reply
abbrev pub View : Type 0
View = List (Call × Reply)

-- the call that a rank makes next, by the number of ranks, the rank and the replies that it got
abbrev pub Next : Type 0
Next = ℕ → ℕ → List Reply → Option Call

-- what a rank has seen in a history
abbrev pub view_of : List Event → ℕ → View
view_of [] rank = []
view_of (event ∷ events) rank =
    if event.rank == rank then (event.call, event.reply) ∷ view_of events rank else view_of events rank

-- the rank of an event, 0 where there is none
abbrev pub rank_of_event : Option Event → ℕ
rank_of_event None = 0
rank_of_event (Some event) = event.rank

-- the moment at which a rank asks: how many ranks there are, the events before, the rank, and what it has seen
pub record Moment : Type 0 where
  pub ranks : ℕ
  pub before : List Event
  pub me : ℕ
  pub own : View

-- the moment with these parts
abbrev pub moment_of : ℕ → List Event → ℕ → View → Moment
moment_of n before me own = record { ranks = n; before = before; me = me; own = own }

-- the moment after a history at which a rank asks
abbrev pub moment_at : ℕ → List Event → ℕ → Moment
moment_at n before me = moment_of n before me (view_of before me)

-- the replies of a view
abbrev pub replies_in : View → List Reply
replies_in view = map (λ (call, reply). reply) view

-- the reply is Done
abbrev pub is_done : Reply → Bool
is_done Done = true
is_done reply = false

-- a start: a Send, a Post or an Enter that was answered Done
abbrev pub is_start : Call × Reply → Bool
is_start (call, reply) = is_starting call && is_done reply

-- a rank's starts, numbered from 0 by their places here
abbrev pub starts_of : View → List Call
starts_of [] = []
starts_of (seen ∷ view) = if is_start seen then seen.0 ∷ starts_of view else starts_of view

-- the start with this number
abbrev pub start_at : View → ℕ → Option Call
start_at view number = slice_get (starts_of view) number

-- the starts that completion calls took, by number
abbrev pub items_taken : List ℕ → List Item → List ℕ
items_taken starts [] = []
items_taken starts (item ∷ items) = slice_index starts item.index ∷ items_taken starts items

-- the starts that were taken in a view, by number
abbrev pub taken_of : View → List ℕ
taken_of [] = []
taken_of ((call, Took items) ∷ view) = items_taken (listed_by call) items ++ taken_of view
taken_of ((call, reply) ∷ view) = taken_of view
