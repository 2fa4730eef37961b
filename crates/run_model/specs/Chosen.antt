-- The runs that a recording machine makes: each event is determined by those before it and by whose turn it is.
use Rattle.std.specs.Prelude.{◌≡◌, ℕ, ℤ, List, [], ◌∷◌, Option, Some, None, Bool, true, false, not, if◌then◌else◌, Result, Ok, Err, map, length, slice_index}
use Rattle.mpi_call.specs.declared.call.Call.{Call}
use Rattle.mpi_call.specs.declared.call.Call.TheVariants.{Send, Post, Enter, Take, Peek}
use Rattle.mpi_call.specs.declared.call.Halt.{Halt}
use Rattle.mpi_call.specs.declared.call.Halt.TheVariants.{Stuck}
use Rattle.mpi_call.specs.declared.call.Source.TheVariants.{Null}
use Rattle.mpi_call.specs.declared.call.TakeMode.{TakeMode}
use Rattle.mpi_call.specs.declared.reply.Got.{Got}
use Rattle.mpi_call.specs.declared.reply.Got.TheVariants.{Sent, Nothing, Message, Made}
use Rattle.mpi_call.specs.declared.reply.Item.{Item}
use Rattle.mpi_call.specs.declared.reply.Reply.{Reply}
use Rattle.mpi_call.specs.declared.reply.Reply.TheVariants.{Done, NotYet, Peeked, Stopped}
use Rattle.mpi_call.specs.Calls.{makes}
use Rattle.mpi_call.specs.Collectives.{is_uncoloured}
use Rattle.run_model.specs.declared.event.Event.{Event}
use Rattle.run_model.specs.Lists.{Along}
use Rattle.run_model.specs.Views.{Moment, View, Next, moment_of, view_of, start_at}
use Rattle.run_model.specs.Inputs.{communicator_for_rank, inputs_of, result_for_rank}
use Rattle.run_model.specs.Pairs.{Name, name_at, named, pairs_of, partner_of}
use Rattle.run_model.specs.Shape.{is_test}
use Rattle.run_model.specs.Allowed.{first_long, flags_of, mode_holds, taken_reply}
use Rattle.run_model.specs.Due.{due}
use Rattle.run_model.specs.Run.{IsPromptRun}
use Rattle.run_model.specs.Choice.{choice, chosen_places, chosen_mate}
use Rattle.run_model.specs.Numbers.{communicators_of, number_among, origin_of}

-- the message of the Send that a receive is paired with
abbrev pub message_of_pair : Name → Option Call → Got
message_of_pair send (Some (Send comm dest tag ints sync)) = Message send.0 send.1 tag ints
message_of_pair send other = Nothing

-- the same, of the Send with this name
abbrev pub message_of : List Event → Option Name → Got
message_of before None = Nothing
message_of before (Some send) = message_of_pair send (named before send)

-- by whether the collective makes a communicator, and whether its colour is undefined
abbrev pub collected_by : Bool → Bool → Moment → ℕ → Call → List (List ℤ) → Got
collected_by true true moment k enter inputs = Made 0 []
collected_by true false moment k enter inputs =
    communicator_for_rank (number_among (communicators_of moment.ranks moment.before) (origin_of moment.own k enter)) moment.ranks moment.me moment.own enter inputs
collected_by false uncoloured moment k enter inputs = result_for_rank moment.ranks moment.me moment.own enter inputs

-- what a collective gives, once those that it needs have entered
abbrev pub collected : Moment → ℕ → Call → Result (List (List ℤ)) ℕ → Got
collected moment k enter (Err missing) = Nothing
collected moment k enter (Ok inputs) = collected_by (makes enter) (is_uncoloured enter) moment k enter inputs

-- what the ready start k of rank `me` gives
abbrev pub got_of : Moment → ℕ → Option Call → Got
got_of moment k (Some (Send comm dest tag ints sync)) = Sent
got_of moment k (Some (Post comm Null tag room)) = Nothing
got_of moment k (Some (Post comm source tag room)) = message_of moment.before (partner_of (pairs_of moment.before) (moment.me, k))
got_of moment k (Some (Enter comm kind root op count ints)) =
    collected moment k (Enter comm kind root op count ints) (inputs_of moment.ranks (view_of moment.before) moment.me moment.own k (Enter comm kind root op count ints))
got_of moment k other = Nothing

-- the items of these listed starts, by their places
abbrev pub items_at : Moment → List ℕ → List ℕ → List Item
items_at moment starts [] = []
items_at moment starts (index ∷ indices) =
    (record { index = index; got = got_of moment (slice_index starts index) (start_at moment.own (slice_index starts index)) })
    ∷ items_at moment starts indices

-- the items of the starts that a mode chooses
abbrev pub items_of : Moment → List ℕ → TakeMode → List Item
items_of moment starts mode = items_at moment starts (chosen_places mode (flags_of moment starts))

-- a test or probe that finds nothing is answered NotYet, a call that waits is answered Stuck
abbrev pub held_reply : Bool → Reply
held_reply true = NotYet
held_reply false = Stopped Stuck

-- the reply to a probe that finds this Send
abbrev pub peeked_in : Name → Option Call → Reply
peeked_in send (Some (Send comm dest tag ints sync)) = Peeked send.0 send.1 tag (length ints)
peeked_in send other = NotYet

-- the same, of the Send with this name
abbrev pub peeked_at : List Event → Option Name → Reply
peeked_at before None = NotYet
peeked_at before (Some send) = peeked_in send (named before send)

-- the reply to a probe that finds the message at a position
abbrev pub peek_reply : List Event → Bool → Option ℕ → Reply
peek_reply before wait (Some at) = peeked_at before (name_at before at)
peek_reply before wait None = held_reply (not wait)

-- the reply where no halt is due
abbrev pub chosen_answer : ℕ → List Event → ℕ → View → Call → Reply
chosen_answer n before me own (Take starts mode) =
    if mode_holds mode (flags_of (moment_of n before me own) starts)
    then taken_reply me (first_long own starts (items_of (moment_of n before me own) starts mode)) (items_of (moment_of n before me own) starts mode)
    else held_reply (is_test mode)
chosen_answer n before me own (Peek comm source tag wait) = peek_reply before wait (choice before me (Peek comm source tag wait))
chosen_answer n before me own call = Done

-- a halt that is due, or else this reply
abbrev pub halt_or : Option Halt → Reply → Reply
halt_or (Some halt) reply = Stopped halt
halt_or None reply = reply

-- the machine's reply to the call of rank `me`; where the call cannot go it is Stuck
abbrev pub chosen_reply : ℕ → List Event → ℕ → Call → Reply
chosen_reply n before me call = halt_or (due n before me (view_of before me) call) (chosen_answer n before me (view_of before me) call)

-- the event that the machine appends for a rank's call
abbrev pub chosen_event : ℕ → List Event → ℕ → Call → Event
chosen_event n before rank call =
    record { rank = rank; call = call; reply = chosen_reply n before rank call; mate = chosen_mate before rank call (chosen_reply n before rank call); met = [] }

-- an event is the machine's, after those before it
abbrev pub IsChosenEvent : ℕ → List Event → Event → Type 0
IsChosenEvent n before event = event ≡ chosen_event n before event.rank event.call

-- a run each of whose events is the machine's
pub record IsChosen (next : Next) (n : ℕ) (events : List Event) : Type 0 where
  pub run : IsPromptRun next n events
  pub along : Along (IsChosenEvent n) [] events

-- the order of a history: whose event each is
abbrev pub order_of : List Event → List ℕ
order_of events = map (λ (event : Event). event.rank) events
