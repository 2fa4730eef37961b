-- Futures and outcomes of small runs: a wildcard whose choice decides between an end and a deadlock, a message that overtakes another
-- one's cause, a barrier that settles who meets whom, a probe that is not kept.
use Rattle.std.proofs.Common.{◌≡◌, ◌∷◌, ℕ, zero, suc, List, [], Some, None, true, false, length, refl, slice_get, ap, arith}
use Rattle.mpi_call.specs.declared.call.Call.{Call}
use Rattle.mpi_call.specs.declared.call.Call.TheVariants.{End, Enter, Peek, Post, Send, Take}
use Rattle.mpi_call.specs.declared.call.Halt.TheVariants.{Stuck, Mismatched}
use Rattle.mpi_call.specs.declared.call.Kind.TheVariants.{Barrier}
use Rattle.mpi_call.specs.declared.call.Source.TheVariants.{Any, From}
use Rattle.mpi_call.specs.declared.call.Tag.TheVariants.{Any as AnyTag}
use Rattle.mpi_call.specs.declared.call.TakeMode.TheVariants.{All}
use Rattle.mpi_call.specs.declared.reply.Got.{Got}
use Rattle.mpi_call.specs.declared.reply.Got.TheVariants.{Message}
use Rattle.mpi_call.specs.declared.reply.Reply.{Reply}
use Rattle.mpi_call.specs.declared.reply.Reply.TheVariants.{Done, NotYet, Took}
use Rattle.run_model.specs.declared.ending.Ending.{Ending}
use Rattle.run_model.specs.declared.ending.Ending.TheVariants.{Finished, Halted}
use Rattle.run_model.specs.declared.event.Event.{Event}
use Rattle.run_model.specs.Pairs.{Name, pairs_of, partner_of}
use Rattle.run_model.specs.Serial.{first_stage, rounds}
use Rattle.run_model.specs.Views.{Next, view_of}
use Rattle.picked_runs.specs.declared.turn.Pick.TheVariants.{First, Sender}
use Rattle.picked_runs.specs.declared.turn.Turn.{Turn}
use Rattle.picked_runs.specs.Picks.{picked_event}
use Rattle.picked_runs.specs.Turns.{take_turns}
use Rattle.srr_entry.specs.Outputs.{Output}
use Rattle.run_states.specs.Futures.{mate_name}
use Rattle.run_states.specs.Outcomes.{IsProbeKept, RunOutcome, outcome_of_run, vain_in}

-- programs whose ranks make these calls whatever the replies
abbrev Script : Type 0
Script = ℕ → List Call

abbrev script : Script → Next
script calls n rank replies = slice_get (calls rank) (length replies)

-- the events of these turns and so many rounds
abbrev recorded : Script → ℕ → List Turn → ℕ → List Event
recorded calls n turns count = (rounds (script calls) n count (take_turns (script calls) n first_stage turns)).events

abbrev plain : ℕ → Turn
plain rank = record { rank = rank; pick = First }

abbrev from : ℕ → ℕ → Turn
from rank sender = record { rank = rank; pick = Sender sender }

-- a rank prints whom its messages came from
abbrev sender_of : Got → List ℕ → List ℕ
sender_of (Message sender start tag ints) rest = sender ∷ rest
sender_of got rest = rest

abbrev senders_in : List Reply → List ℕ
senders_in [] = []
senders_in (Took (item ∷ items) ∷ replies) = sender_of item.got (senders_in replies)
senders_in (reply ∷ replies) = senders_in replies

abbrev senders : Output
senders n rank replies = senders_in replies

abbrev outcome : Ending → List (ℕ × List ℕ) → RunOutcome
outcome ending printed = record { ending = ending; printed = printed }

-- 1. rank 0 receives from any and then from rank 2; ranks 1 and 2 send to it
abbrev deadlock : Script
deadlock zero = Post 0 Any AnyTag 1 ∷ Take (0 ∷ []) All ∷ Post 0 (From 2) AnyTag 1 ∷ Take (1 ∷ []) All ∷ End ∷ []
deadlock rank = Send 0 0 1 [] false ∷ End ∷ []

finishes : outcome_of_run senders 3 (recorded deadlock 3 [] 5) ≡ outcome Finished ((0, 1 ∷ 2 ∷ []) ∷ (1, []) ∷ (2, []) ∷ [])
finishes = refl

sticks : outcome_of_run senders 3 (recorded deadlock 3 (plain 1 ∷ plain 2 ∷ from 0 2 ∷ []) 3) ≡ outcome (Halted Stuck) ((0, 2 ∷ []) ∷ (1, []) ∷ (2, []) ∷ [])
sticks = refl

-- whoever sends first: one future, though the mate stands elsewhere
abbrev sent_in_order : List Event
sent_in_order = recorded deadlock 3 (plain 1 ∷ plain 2 ∷ []) 0

abbrev sent_crosswise : List Event
sent_crosswise = recorded deadlock 3 (plain 2 ∷ plain 1 ∷ []) 0

abbrev receives : Call
receives = Post 0 Any AnyTag 1

other_places : (picked_event 3 sent_in_order 0 receives (Sender 2)).mate ≡ Some 1
other_places = refl

and_others : (picked_event 3 sent_crosswise 0 receives (Sender 2)).mate ≡ Some 0
and_others = refl

one_name : mate_name sent_in_order (picked_event 3 sent_in_order 0 receives (Sender 2)).mate ≡ Some (2, 0)
one_name = refl

same_name : mate_name sent_crosswise (picked_event 3 sent_crosswise 0 receives (Sender 2)).mate ≡ Some (2, 0)
same_name = refl

-- where nothing is picked, the name goes by the order
first_name : mate_name sent_in_order (picked_event 3 sent_in_order 0 receives First).mate ≡ Some (1, 0)
first_name = refl

second_name : mate_name sent_crosswise (picked_event 3 sent_crosswise 0 receives First).mate ≡ Some (2, 0)
second_name = refl

-- 2. rank 0 sends to 2 and then to 1, which answers by a message to 2; rank 2 receives two messages from any
abbrev race : Script
race zero = Send 0 2 1 [] false ∷ Send 0 1 1 [] false ∷ End ∷ []
race (suc zero) = Post 0 (From 0) AnyTag 1 ∷ Take (0 ∷ []) All ∷ Send 0 2 1 [] false ∷ End ∷ []
race rank = Post 0 Any AnyTag 1 ∷ Take (0 ∷ []) All ∷ Post 0 Any AnyTag 1 ∷ Take (1 ∷ []) All ∷ End ∷ []

abbrev sent : List Turn → List Turn
sent turns = plain 0 ∷ plain 0 ∷ plain 1 ∷ plain 1 ∷ plain 1 ∷ turns

earlier_first : outcome_of_run senders 3 (recorded race 3 (sent []) 5) ≡ outcome Finished ((0, []) ∷ (1, 0 ∷ []) ∷ (2, 0 ∷ 1 ∷ []) ∷ [])
earlier_first = refl

later_first : outcome_of_run senders 3 (recorded race 3 (sent (from 2 1 ∷ [])) 5) ≡ outcome Finished ((0, []) ∷ (1, 0 ∷ []) ∷ (2, 1 ∷ 0 ∷ []) ∷ [])
later_first = refl

-- right after the receive all views are the same, and the pairs are not
same_view : view_of (recorded race 3 (sent (from 2 1 ∷ [])) 0) 2 ≡ view_of (recorded race 3 (sent (from 2 0 ∷ [])) 0) 2
same_view = refl

paired_later : partner_of (pairs_of (recorded race 3 (sent (from 2 1 ∷ [])) 0)) (2, 0) ≡ Some (1, 1)
paired_later = refl

paired_earlier : partner_of (pairs_of (recorded race 3 (sent (from 2 0 ∷ [])) 0)) (2, 0) ≡ Some (0, 0)
paired_earlier = refl

-- 3. rank 0 sends to 1 before a barrier, rank 2 behind it: rank 1's receive from before the barrier meets the first message, whoever runs first
abbrev barrier : Call
barrier = Enter 0 Barrier None None 0 []

abbrev crooked : Script
crooked zero = Send 0 1 1 [] false ∷ barrier ∷ Take (1 ∷ []) All ∷ End ∷ []
crooked (suc zero) = Post 0 Any AnyTag 1 ∷ barrier ∷ Take (1 ∷ []) All ∷ Take (0 ∷ []) All ∷ Post 0 Any AnyTag 1 ∷ Take (2 ∷ []) All ∷ End ∷ []
crooked rank = barrier ∷ Take (0 ∷ []) All ∷ Send 0 1 1 [] false ∷ End ∷ []

abbrev one_way : RunOutcome
one_way = outcome Finished ((0, []) ∷ (1, 0 ∷ 2 ∷ []) ∷ (2, []) ∷ [])

in_rounds : outcome_of_run senders 3 (recorded crooked 3 [] 7) ≡ one_way
in_rounds = refl

receiver_first : outcome_of_run senders 3 (recorded crooked 3 (plain 1 ∷ plain 1 ∷ plain 2 ∷ plain 0 ∷ plain 0 ∷ plain 2 ∷ plain 2 ∷ []) 7) ≡ one_way
receiver_first = refl

receiver_last : outcome_of_run senders 3 (recorded crooked 3 (plain 2 ∷ plain 0 ∷ plain 0 ∷ plain 1 ∷ plain 1 ∷ plain 2 ∷ plain 2 ∷ []) 7) ≡ one_way
receiver_last = refl

-- 4. two ranks enter otherwise: the outcome does not name who came second
abbrev apart : Script
apart zero = barrier ∷ End ∷ []
apart rank = Enter 0 Barrier None None 1 [] ∷ End ∷ []

lower_first : outcome_of_run senders 2 (recorded apart 2 (plain 0 ∷ plain 1 ∷ []) 2) ≡ outcome (Halted (Mismatched 0)) []
lower_first = refl

upper_first : outcome_of_run senders 2 (recorded apart 2 (plain 1 ∷ plain 0 ∷ []) 2) ≡ outcome (Halted (Mismatched 0)) []
upper_first = refl

-- 5. a probe finds rank 1's message, and the receive takes rank 0's
abbrev probes : Script
probes zero = Send 0 2 3 [] false ∷ End ∷ []
probes (suc zero) = Send 0 2 4 [] false ∷ End ∷ []
probes rank = Peek 0 Any AnyTag true ∷ Post 0 Any AnyTag 1 ∷ Take (0 ∷ []) All ∷ End ∷ []

abbrev probed : List Event
probed = recorded probes 3 (plain 0 ∷ plain 1 ∷ from 2 1 ∷ []) 0

apart_by_one : (a b : ℕ) → a ≡ 0 → b ≡ 1 → a ≡ b → ⊥
apart_by_one a b p q e = absurd (omega arith)

not_kept : IsProbeKept probed (picked_event 3 probed 2 receives (Sender 0)) → ⊥
not_kept kept =
    let taken : Name = (0, 0) in
    let found : Name = (1, 0) in
    let no : Some taken ≡ Some found = kept [] 0 Any AnyTag true 1 1 0 4 0 refl refl refl in
    let same : taken ≡ found = cc in
    apart_by_one 0 1 refl refl (ap (λ (name : Name). name.0) same)

-- 6. looks in vain: those at the end, in a row
abbrev look : Call
look = Peek 0 Any AnyTag false

twice : vain_in ((look, NotYet) ∷ (look, NotYet) ∷ []) ≡ 2
twice = refl

once_again : vain_in ((look, NotYet) ∷ (receives, Done) ∷ (look, NotYet) ∷ []) ≡ 1
once_again = refl
