-- Runs that no recording makes, with the late pairs behind the events after which they meet, and their logs for the group of all ranks:
-- receives that wait for a later message than the one that is there, and a probe that finds nothing although a message is there.
use Rattle.std.proofs.Common.{◌≡◌, ℕ, ℤ, pos, List, [], ◌∷◌, Some, None, true, false, inl, inr, refl, take, arith}
use Rattle.std.specs.Prelude.{Ok, map}
use Rattle.mpi_call.specs.declared.call.Call.{Call}
use Rattle.mpi_call.specs.declared.call.Call.TheVariants.{End, Enter, Peek, Post, Send, Take}
use Rattle.mpi_call.specs.declared.call.Kind.TheVariants.{Barrier}
use Rattle.mpi_call.specs.declared.call.Source.{Source}
use Rattle.mpi_call.specs.declared.call.Source.TheVariants.{Any, From}
use Rattle.mpi_call.specs.declared.call.Tag.TheVariants.{Is}
use Rattle.mpi_call.specs.declared.call.TakeMode.TheVariants.{All}
use Rattle.mpi_call.specs.declared.reply.Got.{Got}
use Rattle.mpi_call.specs.declared.reply.Got.TheVariants.{Joined, Message}
use Rattle.mpi_call.specs.declared.reply.Item.{Item}
use Rattle.mpi_call.specs.declared.reply.Reply.{Reply}
use Rattle.mpi_call.specs.declared.reply.Reply.TheVariants.{Done, NotYet, Took}
use Rattle.run_model.specs.declared.event.Event.{Event}
use Rattle.run_model.specs.Allowed.{IsCompletionReply, IsFound, first_long, flags_of, has_open, taken_reply, true_places}
use Rattle.run_model.specs.Inputs.{inputs_of}
use Rattle.run_model.specs.Lists.{Along}
use Rattle.run_model.specs.Pairs.{MeetInTurn, Name, PostAccepts, named, pairs_of, partner_of}
use Rattle.run_model.specs.Program.{PrintsOn}
use Rattle.run_model.specs.Readiness.{AreGots, IsCollected, IsMessage}
use Rattle.run_model.specs.Run.{IsRun}
use Rattle.run_model.specs.Views.{Moment, moment_at, view_of}
use Rattle.srr_entry.specs.declared.entry.Entry.TheVariants.{Ended, Entered, NotYet as EntryNotYet, Posted, Sent, Took as EntryTook}
use Rattle.srr_entry.specs.declared.entry.Entry.{Entry}
use Rattle.srr_entry.specs.declared.entry.Mark.TheVariants.{Inner, Inside}
use Rattle.srr_entry.specs.declared.entry.Mark.{Mark}
use Rattle.srr_entry.specs.declared.log.Log.{Log}
use Rattle.srr_entry.specs.Entries.{log_of}
use Rattle.srr_entry.specs.Outputs.{Output}
use Rattle.replay_model.specs.Laws.{ShowsInEveryOrder}
use Rattle.replay_model.proofs.Free.{shows_in_every_order}
use Rattle.replay_model.proofs.TablePrograms.{asks, is_table, lawful_table}
use Rattle.replay_model.proofs.TestedRuns.{IsTold, tested_run}

abbrev event : ℕ → Call → Reply → List (Name × Name) → Event
event rank call reply met = record { rank = rank; call = call; reply = reply; mate = None; met = met }

abbrev item : ℕ → Got → Item
item index got = record { index = index; got = got }

abbrev pub receive : Source → ℕ → Call
receive source tag = Post 0 source (Is tag) 1

abbrev pub message : ℕ → ℕ → ℤ → Call
message dest tag int = Send 0 dest tag (int ∷ []) false

abbrev pub barrier : Call
barrier = Enter 0 Barrier None None 0 []

abbrev pub take_one : ℕ → Call
take_one start = Take (start ∷ []) All

abbrev pub left : Reply
left = Took (item 0 (Joined []) ∷ [])

abbrev pub given : ℕ → ℕ → ℕ → ℤ → Reply
given source start tag int = Took (item 0 (Message source start tag (int ∷ [])) ∷ [])

abbrev marked : Mark → Entry
marked mark = EntryTook (record { index = 0; mark = mark } ∷ [])

-- the log of the group of all three ranks
abbrev pub whole_log : List Event → Log
whole_log run = log_of [] 3 run (0 ∷ 1 ∷ 2 ∷ [])

-- replays of this log show this run, whatever the order of the ranks and whatever they print
Shown : List (List Call) → List Event → Type 0
Shown table run = (output : Output) → PrintsOn (asks table) output → ShowsInEveryOrder (asks table) output (whole_log run) run

shown : (table : List (List Call)) (run : List Event) → is_table table ≡ true → IsRun (asks table) 3 run → Shown table run
unfolding Shown
shown table run h is output prints =
    shows_in_every_order (asks table) output (whole_log run) run (lawful_table table h) prints (record { is_run = is; same_log = refl })

-- a step, and those behind it
infixr 5 ◌also◌
abbrev ◌also◌ : {A B : Type 0} → A → B → A × B
a also b = (a, b)

-- a receive gives the message of its partner, and a barrier nothing
gives : {before : List Event} {me k : ℕ} (source start dest tag : ℕ) (int : ℤ) → partner_of (pairs_of before) (me, k) ≡ Some (source, start)
    → named before (source, start) ≡ Some (message dest tag int) → IsMessage before me k (Message source start tag (int ∷ []))
gives source start dest tag int paired sent =
    record { send = (source, start); comm = 0; dest = dest; tag = tag; ints = int ∷ []; sync = false; paired = paired; sent = sent; got_is = refl }

passes : {moment : Moment} {k : ℕ} → inputs_of moment.ranks (view_of moment.before) moment.me moment.own k barrier ≡ Ok ([] ∷ [] ∷ [] ∷ [])
    → IsCollected moment k barrier (Joined [])
passes gathered = record { inputs = [] ∷ [] ∷ [] ∷ []; gathered = gathered; given = refl }

-- a completion of all that it lists
takes : {moment : Moment} {starts : List ℕ} (items : List Item) → map (λ (item : Item). item.index) items ≡ true_places 0 (flags_of moment starts)
    → AreGots moment starts items → IsCompletionReply moment starts All (taken_reply moment.me (first_long moment.own starts items) items)
takes items chosen gots = record { items = items; chosen = chosen; gots = gots; reply_is = refl }

-- Rank 1 posts a receive from any source, all ranks meet in a barrier, rank 0 sends before it and rank 2 behind it, and rank 1 posts a
-- second receive. The first gets the message of rank 2, the second that of rank 0, and the second is completed first.
abbrev pub crooked_calls : List (List Call)
crooked_calls =
    (message 1 1 (pos 100) ∷ barrier ∷ take_one 1 ∷ End ∷ [])
    ∷ (receive Any 1 ∷ barrier ∷ take_one 1 ∷ receive Any 1 ∷ take_one 2 ∷ take_one 0 ∷ End ∷ [])
    ∷ (barrier ∷ take_one 0 ∷ message 1 1 (pos 200) ∷ End ∷ []) ∷ []

abbrev pub crooked : List Event
crooked =
    event 1 (receive Any 1) Done []
    ∷ event 0 (message 1 1 (pos 100)) Done []
    ∷ event 0 barrier Done []
    ∷ event 1 barrier Done []
    ∷ event 2 barrier Done []
    ∷ event 0 (take_one 1) left []
    ∷ event 1 (take_one 1) left []
    ∷ event 2 (take_one 0) left []
    ∷ event 2 (message 1 1 (pos 200)) Done (((1, 0), (2, 1)) ∷ [])
    ∷ event 1 (receive Any 1) Done (((1, 2), (0, 0)) ∷ [])
    ∷ event 1 (take_one 2) (given 0 0 1 (pos 100)) []
    ∷ event 1 (take_one 0) (given 2 1 1 (pos 200)) []
    ∷ event 0 End Done []
    ∷ event 1 End Done []
    ∷ event 2 End Done []
    ∷ []

crooked_told : Along (IsTold (asks crooked_calls) 3) [] crooked
crooked_told =
    (refl, inl (refl, tt))
    also (refl, inl (refl, tt))
    also (refl, inl (refl, tt))
    also (refl, inl (refl, tt))
    also (refl, inl (refl, tt))
    also (refl, inl (takes (item 0 (Joined []) ∷ []) refl (passes refl, tt), tt))
    also (refl, inl (takes (item 0 (Joined []) ∷ []) refl (passes refl, tt), tt))
    also (refl, inl (takes (item 0 (Joined []) ∷ []) refl (passes refl, tt), tt))
    also (refl, inl (refl, tt))
    also (refl, inl (refl, tt))
    also (refl, inl (takes (item 0 (Message 0 0 1 (pos 100 ∷ [])) ∷ []) refl (gives 0 0 1 1 (pos 100) refl refl, tt), tt))
    also (refl, inl (takes (item 0 (Message 2 1 1 (pos 200 ∷ [])) ∷ []) refl (gives 2 1 1 1 (pos 200) refl refl, tt), tt))
    also (refl, inl (refl, tt))
    also (refl, inl (refl, tt))
    also (refl, inl (refl, tt))
    also tt

crooked_run : IsRun (asks crooked_calls) 3 crooked
crooked_run = tested_run (asks crooked_calls) 3 crooked (omega arith) (omega arith) refl crooked_told

crooked_log : (whole_log crooked).lists
    ≡ (Sent ∷ Entered ∷ marked Inner ∷ Ended ∷ [])
    ∷ (Posted ∷ Entered ∷ marked Inner ∷ Posted ∷ marked (Inside 0 0) ∷ marked (Inside 2 1) ∷ Ended ∷ [])
    ∷ (Entered ∷ marked Inner ∷ Sent ∷ Ended ∷ []) ∷ []
crooked_log = refl

crooked_shown : Shown crooked_calls crooked
crooked_shown = shown crooked_calls crooked refl crooked_run

-- The same, but rank 1 posts both receives before the barrier, and completes them with one call behind it: both pairs meet after the
-- message of rank 2.
abbrev pub waiting_calls : List (List Call)
waiting_calls =
    (message 1 1 (pos 100) ∷ barrier ∷ take_one 1 ∷ End ∷ [])
    ∷ (receive Any 1 ∷ receive Any 1 ∷ barrier ∷ take_one 2 ∷ Take (0 ∷ 1 ∷ []) All ∷ End ∷ [])
    ∷ (barrier ∷ take_one 0 ∷ message 1 1 (pos 200) ∷ End ∷ []) ∷ []

abbrev both : List Item
both = item 0 (Message 2 1 1 (pos 200 ∷ [])) ∷ item 1 (Message 0 0 1 (pos 100 ∷ [])) ∷ []

abbrev pub waiting : List Event
waiting =
    event 1 (receive Any 1) Done []
    ∷ event 1 (receive Any 1) Done []
    ∷ event 0 (message 1 1 (pos 100)) Done []
    ∷ event 0 barrier Done []
    ∷ event 1 barrier Done []
    ∷ event 2 barrier Done []
    ∷ event 0 (take_one 1) left []
    ∷ event 1 (take_one 2) left []
    ∷ event 2 (take_one 0) left []
    ∷ event 2 (message 1 1 (pos 200)) Done (((1, 0), (2, 1)) ∷ ((1, 1), (0, 0)) ∷ [])
    ∷ event 1 (Take (0 ∷ 1 ∷ []) All) (Took both) []
    ∷ event 0 End Done []
    ∷ event 1 End Done []
    ∷ event 2 End Done []
    ∷ []

waiting_told : Along (IsTold (asks waiting_calls) 3) [] waiting
waiting_told =
    (refl, inl (refl, tt))
    also (refl, inl (refl, tt))
    also (refl, inl (refl, tt))
    also (refl, inl (refl, tt))
    also (refl, inl (refl, tt))
    also (refl, inl (refl, tt))
    also (refl, inl (takes (item 0 (Joined []) ∷ []) refl (passes refl, tt), tt))
    also (refl, inl (takes (item 0 (Joined []) ∷ []) refl (passes refl, tt), tt))
    also (refl, inl (takes (item 0 (Joined []) ∷ []) refl (passes refl, tt), tt))
    also (refl, inl (refl, tt))
    also (refl, inl (takes both refl (gives 2 1 1 1 (pos 200) refl refl, (gives 0 0 1 1 (pos 100) refl refl, tt)), tt))
    also (refl, inl (refl, tt))
    also (refl, inl (refl, tt))
    also (refl, inl (refl, tt))
    also tt

-- the order of the two pairs matters: while the first receive is open, the second cannot get a message that both accept
not_met : MeetInTurn (named (take 10 waiting)) [] (((1, 1), (0, 0)) ∷ ((1, 0), (2, 1)) ∷ []) → ⊥
not_met met =
    let takes : PostAccepts (named (take 10 waiting)) (1, 0) (0, 0) = record { post_call = receive Any 1; send_call = message 1 1 (pos 100); post_is = refl; send_is = refl; accepted = refl } in
    let no : false ≡ true = met.3.0.earliest_receive (1, 1) (0, 0) refl 0 (omega arith) takes in
    cc

waiting_run : IsRun (asks waiting_calls) 3 waiting
waiting_run = tested_run (asks waiting_calls) 3 waiting (omega arith) (omega arith) refl waiting_told

waiting_log : (whole_log waiting).lists
    ≡ (Sent ∷ Entered ∷ marked Inner ∷ Ended ∷ [])
    ∷ (Posted ∷ Posted ∷ Entered ∷ marked Inner ∷ EntryTook (record { index = 0; mark = Inside 2 1 } ∷ record { index = 1; mark = Inside 0 0 } ∷ []) ∷ Ended ∷ [])
    ∷ (Entered ∷ marked Inner ∷ Sent ∷ Ended ∷ []) ∷ []
waiting_log = refl

waiting_shown : Shown waiting_calls waiting
waiting_shown = shown waiting_calls waiting refl waiting_run

-- Without a barrier: rank 1 posts a receive from any source and then tells rank 0 to send; rank 0 sends, and tells rank 2 to send. The
-- first receive gets the message of rank 2, and the second, which is posted last, that of rank 0.
abbrev pub late_calls : List (List Call)
late_calls =
    (receive (From 1) 8 ∷ take_one 0 ∷ message 1 1 (pos 100) ∷ message 2 9 (pos 100) ∷ End ∷ [])
    ∷ (receive Any 1 ∷ message 0 8 (pos 0) ∷ receive Any 1 ∷ take_one 2 ∷ take_one 0 ∷ End ∷ [])
    ∷ (receive (From 0) 9 ∷ take_one 0 ∷ message 1 1 (pos 200) ∷ End ∷ []) ∷ []

abbrev pub late : List Event
late =
    event 1 (receive Any 1) Done []
    ∷ event 1 (message 0 8 (pos 0)) Done []
    ∷ event 0 (receive (From 1) 8) Done (((0, 0), (1, 1)) ∷ [])
    ∷ event 0 (take_one 0) (given 1 1 8 (pos 0)) []
    ∷ event 0 (message 1 1 (pos 100)) Done []
    ∷ event 0 (message 2 9 (pos 100)) Done []
    ∷ event 2 (receive (From 0) 9) Done (((2, 0), (0, 2)) ∷ [])
    ∷ event 2 (take_one 0) (given 0 2 9 (pos 100)) []
    ∷ event 2 (message 1 1 (pos 200)) Done (((1, 0), (2, 1)) ∷ [])
    ∷ event 1 (receive Any 1) Done (((1, 2), (0, 1)) ∷ [])
    ∷ event 1 (take_one 2) (given 0 1 1 (pos 100)) []
    ∷ event 1 (take_one 0) (given 2 1 1 (pos 200)) []
    ∷ event 0 End Done []
    ∷ event 1 End Done []
    ∷ event 2 End Done []
    ∷ []

late_told : Along (IsTold (asks late_calls) 3) [] late
late_told =
    (refl, inl (refl, tt))
    also (refl, inl (refl, tt))
    also (refl, inl (refl, tt))
    also (refl, inl (takes (item 0 (Message 1 1 8 (pos 0 ∷ [])) ∷ []) refl (gives 1 1 0 8 (pos 0) refl refl, tt), tt))
    also (refl, inl (refl, tt))
    also (refl, inl (refl, tt))
    also (refl, inl (refl, tt))
    also (refl, inl (takes (item 0 (Message 0 2 9 (pos 100 ∷ [])) ∷ []) refl (gives 0 2 2 9 (pos 100) refl refl, tt), tt))
    also (refl, inl (refl, tt))
    also (refl, inl (refl, tt))
    also (refl, inl (takes (item 0 (Message 0 1 1 (pos 100 ∷ [])) ∷ []) refl (gives 0 1 1 1 (pos 100) refl refl, tt), tt))
    also (refl, inl (takes (item 0 (Message 2 1 1 (pos 200 ∷ [])) ∷ []) refl (gives 2 1 1 1 (pos 200) refl refl, tt), tt))
    also (refl, inl (refl, tt))
    also (refl, inl (refl, tt))
    also (refl, inl (refl, tt))
    also tt

late_run : IsRun (asks late_calls) 3 late
late_run = tested_run (asks late_calls) 3 late (omega arith) (omega arith) refl late_told

late_log : (whole_log late).lists
    ≡ (Posted ∷ marked (Inside 1 1) ∷ Sent ∷ Sent ∷ Ended ∷ [])
    ∷ (Posted ∷ Sent ∷ Posted ∷ marked (Inside 0 1) ∷ marked (Inside 2 1) ∷ Ended ∷ [])
    ∷ (Posted ∷ marked (Inside 0 2) ∷ Sent ∷ Ended ∷ []) ∷ []
late_log = refl

late_shown : Shown late_calls late
late_shown = shown late_calls late refl late_run

-- Rank 0 sends to rank 1 and then to rank 2, which sends to rank 1. Rank 1 has got that message and does not find the first yet.
abbrev pub flight_calls : List (List Call)
flight_calls =
    (message 1 1 (pos 0) ∷ message 2 2 (pos 0) ∷ End ∷ [])
    ∷ (receive (From 2) 3 ∷ take_one 0 ∷ Peek 0 (From 0) (Is 1) false ∷ receive (From 0) 1 ∷ take_one 1 ∷ End ∷ [])
    ∷ (receive (From 0) 2 ∷ take_one 0 ∷ message 1 3 (pos 0) ∷ End ∷ []) ∷ []

abbrev pub flight : List Event
flight =
    event 0 (message 1 1 (pos 0)) Done []
    ∷ event 0 (message 2 2 (pos 0)) Done []
    ∷ event 2 (receive (From 0) 2) Done (((2, 0), (0, 1)) ∷ [])
    ∷ event 2 (take_one 0) (given 0 1 2 (pos 0)) []
    ∷ event 2 (message 1 3 (pos 0)) Done []
    ∷ event 1 (receive (From 2) 3) Done (((1, 0), (2, 1)) ∷ [])
    ∷ event 1 (take_one 0) (given 2 1 3 (pos 0)) []
    ∷ event 1 (Peek 0 (From 0) (Is 1) false) NotYet []
    ∷ event 1 (receive (From 0) 1) Done (((1, 1), (0, 0)) ∷ [])
    ∷ event 1 (take_one 1) (given 0 0 1 (pos 0)) []
    ∷ event 0 End Done []
    ∷ event 1 End Done []
    ∷ event 2 End Done []
    ∷ []

-- the message is there
there : has_open 3 (take 7 flight) 1 0 (From 0) (Is 1) ≡ true
there = refl

-- no earlier probe has found it
not_found : IsFound (moment_at 3 (take 7 flight) 1) 0 (From 0) (Is 1) → ⊥
not_found is =
    elim is.found [
      | inl e ↦ cc
      | inr later ↦ elim later [ inl e ↦ cc | inr none ↦ none ]
    ]

flight_told : Along (IsTold (asks flight_calls) 3) [] flight
flight_told =
    (refl, inl (refl, tt))
    also (refl, inl (refl, tt))
    also (refl, inl (refl, tt))
    also (refl, inl (takes (item 0 (Message 0 1 2 (pos 0 ∷ [])) ∷ []) refl (gives 0 1 2 2 (pos 0) refl refl, tt), tt))
    also (refl, inl (refl, tt))
    also (refl, inl (refl, tt))
    also (refl, inl (takes (item 0 (Message 2 1 3 (pos 0 ∷ [])) ∷ []) refl (gives 2 1 1 3 (pos 0) refl refl, tt), tt))
    also (refl, inr (refl, (refl, refl, not_found)))
    also (refl, inl (refl, tt))
    also (refl, inl (takes (item 0 (Message 0 0 1 (pos 0 ∷ [])) ∷ []) refl (gives 0 0 1 1 (pos 0) refl refl, tt), tt))
    also (refl, inl (refl, tt))
    also (refl, inl (refl, tt))
    also (refl, inl (refl, tt))
    also tt

flight_run : IsRun (asks flight_calls) 3 flight
flight_run = tested_run (asks flight_calls) 3 flight (omega arith) (omega arith) refl flight_told

flight_log : (whole_log flight).lists
    ≡ (Sent ∷ Sent ∷ Ended ∷ [])
    ∷ (Posted ∷ marked (Inside 2 1) ∷ EntryNotYet ∷ Posted ∷ marked (Inside 0 0) ∷ Ended ∷ [])
    ∷ (Posted ∷ marked (Inside 0 1) ∷ Sent ∷ Ended ∷ []) ∷ []
flight_log = refl

flight_shown : Shown flight_calls flight
flight_shown = shown flight_calls flight refl flight_run
