-- The machine's choices on small runs: its order, wildcards, tests, the least index, new communicators, and no way on.
use Rattle.std.proofs.Common.{◌≡◌, ◌∷◌, ℕ, zero, suc, ℤ, pos, negsuc, List, [], None, false, length, map, refl, slice_get}
use Rattle.mpi_call.specs.declared.call.Call.{Call}
use Rattle.mpi_call.specs.declared.call.Call.TheVariants.{End, Enter, Peek, Post, Send, Take}
use Rattle.mpi_call.specs.declared.call.Halt.TheVariants.{Stuck}
use Rattle.mpi_call.specs.declared.call.Kind.TheVariants.{Barrier, Split}
use Rattle.mpi_call.specs.declared.call.Source.TheVariants.{Any, From}
use Rattle.mpi_call.specs.declared.call.Tag.TheVariants.{Any as AnyTag, Is}
use Rattle.mpi_call.specs.declared.call.TakeMode.TheVariants.{All, Any as AnyOne, TestAll}
use Rattle.mpi_call.specs.declared.reply.Got.TheVariants.{Joined, Made, Message}
use Rattle.mpi_call.specs.declared.reply.Got.{Got}
use Rattle.mpi_call.specs.declared.reply.Reply.{Reply}
use Rattle.mpi_call.specs.declared.reply.Reply.TheVariants.{Done, NotYet, Peeked, Stopped, Took}
use Rattle.run_model.specs.declared.event.Event.{Event}
use Rattle.run_model.specs.Chosen.{order_of}
use Rattle.run_model.specs.Serial.{first_stage, attempts, rounds}
use Rattle.run_model.specs.Views.{Next, replies_in, view_of}

-- programs whose ranks make these calls whatever the replies
abbrev Script : Type 0
Script = ℕ → List Call

abbrev script : Script → Next
script calls n rank replies = slice_get (calls rank) (length replies)

-- the events of these turns and so many rounds
abbrev serial : Script → ℕ → List ℕ → ℕ → List Event
serial calls n turns count = (rounds (script calls) n count (attempts (script calls) n first_stage turns)).events

abbrev replies_to : ℕ → List Event → List Reply
replies_to rank events = replies_in (view_of events rank)

abbrev took : ℕ → Got → Reply
took index got = Took ((record { index = index; got = got }) ∷ [])

-- two senders, and two receives from any: rank 1 sends first, and rank 2 gets its message first
abbrev wildcards : Script
wildcards zero = Send 0 2 9 (pos 0 ∷ []) false ∷ End ∷ []
wildcards (suc zero) = Send 0 2 9 (pos 1 ∷ []) false ∷ End ∷ []
wildcards rank =
    Post 0 Any (Is 9) 1 ∷ Take (0 ∷ []) All ∷ Post 0 Any (Is 9) 1 ∷ Take (1 ∷ []) All ∷ End ∷ []

order_of_wildcards : order_of (serial wildcards 3 (1 ∷ []) 5) ≡ 1 ∷ 0 ∷ 1 ∷ 2 ∷ 0 ∷ 2 ∷ 2 ∷ 2 ∷ 2 ∷ []
order_of_wildcards = refl

first_come : replies_to 2 (serial wildcards 3 (1 ∷ []) 5)
    ≡ Done ∷ took 0 (Message 1 0 9 (pos 1 ∷ [])) ∷ Done ∷ took 0 (Message 0 0 9 (pos 0 ∷ [])) ∷ Done ∷ []
first_come = refl

-- the order as turns gives the same run
the_same_again : serial wildcards 3 (1 ∷ 0 ∷ 1 ∷ 2 ∷ 0 ∷ 2 ∷ 2 ∷ 2 ∷ 2 ∷ []) 0 ≡ serial wildcards 3 (1 ∷ []) 5
the_same_again = refl

-- two ranks that both receive before anything is sent: rank 1 waits, rank 0 waits, then rank 1 is stuck
abbrev receivers : Script
receivers zero = Post 0 (From 1) AnyTag 1 ∷ Take (0 ∷ []) All ∷ []
receivers rank = Post 0 (From 0) AnyTag 1 ∷ Take (0 ∷ []) All ∷ []

stuck_order : order_of (serial receivers 2 [] 3) ≡ 0 ∷ 1 ∷ 1 ∷ 0 ∷ []
stuck_order = refl

stuck_replies : replies_to 0 (serial receivers 2 [] 3) ≡ Done ∷ Stopped Stuck ∷ []
stuck_replies = refl

-- a receive that is tested until it is complete
abbrev tests : Script
tests zero = Send 0 1 5 (pos 0 ∷ []) false ∷ End ∷ []
tests rank =
    Post 0 (From 0) (Is 5) 1 ∷ Take (0 ∷ []) TestAll ∷ Take (0 ∷ []) TestAll ∷ Take (0 ∷ []) TestAll ∷ Take (0 ∷ []) TestAll ∷ End ∷ []

tested : replies_to 1 (serial tests 2 (1 ∷ 1 ∷ 1 ∷ 1 ∷ []) 2)
    ≡ Done ∷ NotYet ∷ NotYet ∷ NotYet ∷ took 0 (Message 0 0 5 (pos 0 ∷ [])) ∷ Done ∷ []
tested = refl

-- two complete receives: the one with the least index first
abbrev waits : Script
waits zero = Send 0 1 5 [] false ∷ Send 0 1 6 [] false ∷ End ∷ []
waits rank =
    Post 0 (From 0) (Is 5) 1 ∷ Post 0 (From 0) (Is 6) 1 ∷ Take (0 ∷ 1 ∷ []) AnyOne ∷ Take (1 ∷ []) AnyOne ∷ End ∷ []

least_first : replies_to 1 (serial waits 2 (0 ∷ 0 ∷ []) 5)
    ≡ Done ∷ Done ∷ took 0 (Message 0 0 5 []) ∷ took 0 (Message 0 1 6 []) ∷ Done ∷ []
least_first = refl

-- a probe, and the receive of what it found
abbrev probes : Script
probes zero = Send 0 1 3 (pos 0 ∷ []) false ∷ End ∷ []
probes rank = Peek 0 Any AnyTag false ∷ Post 0 (From 0) (Is 3) 1 ∷ Take (0 ∷ []) All ∷ End ∷ []

probed : replies_to 1 (serial probes 2 (0 ∷ []) 4)
    ≡ Peeked 0 0 3 1 ∷ Done ∷ took 0 (Message 0 0 3 (pos 0 ∷ [])) ∷ Done ∷ []
probed = refl

-- a Split where rank 1 has an undefined colour
abbrev split_with : ℤ → Call
split_with colour = Enter 0 Split None None 0 (colour ∷ pos 0 ∷ [])

abbrev uncoloured : Script
uncoloured (suc zero) = split_with (negsuc 32765) ∷ Take (0 ∷ []) All ∷ End ∷ []
uncoloured rank = split_with (pos 1) ∷ Take (0 ∷ []) All ∷ End ∷ []

one_made : map (λ rank. replies_to rank (serial uncoloured 3 [] 4)) (0 ∷ 1 ∷ 2 ∷ [])
    ≡ (Done ∷ took 0 (Made 1 (0 ∷ 2 ∷ [])) ∷ Done ∷ []) ∷ (Done ∷ took 0 (Made 0 []) ∷ Done ∷ []) ∷ (Done ∷ took 0 (Made 1 (0 ∷ 2 ∷ [])) ∷ Done ∷ []) ∷ []
one_made = refl

-- colours 1, 1 and 0: the communicator of colour 0 is number 1, and each has a Barrier on its own
abbrev halves : Script
halves (suc (suc zero)) = split_with (pos 0) ∷ Take (0 ∷ []) All ∷ Enter 1 Barrier None None 0 [] ∷ Take (1 ∷ []) All ∷ End ∷ []
halves rank = split_with (pos 1) ∷ Take (0 ∷ []) All ∷ Enter 2 Barrier None None 0 [] ∷ Take (1 ∷ []) All ∷ End ∷ []

rising_by_colour : map (λ rank. replies_to rank (serial halves 3 [] 6)) (0 ∷ 1 ∷ 2 ∷ [])
    ≡ (Done ∷ took 0 (Made 2 (0 ∷ 1 ∷ [])) ∷ Done ∷ took 0 (Joined []) ∷ Done ∷ [])
    ∷ (Done ∷ took 0 (Made 2 (0 ∷ 1 ∷ [])) ∷ Done ∷ took 0 (Joined []) ∷ Done ∷ [])
    ∷ (Done ∷ took 0 (Made 1 (2 ∷ [])) ∷ Done ∷ took 0 (Joined []) ∷ Done ∷ [])
    ∷ []
rising_by_colour = refl

-- rank 0 receives from 2; rank 1 sends to 2; rank 2 receives from 1 and then sends to 0
abbrev chain : Script
chain zero = Post 0 (From 2) AnyTag 1 ∷ Take (0 ∷ []) All ∷ End ∷ []
chain (suc zero) = Send 0 2 5 [] false ∷ End ∷ []
chain rank = Post 0 (From 1) AnyTag 1 ∷ Take (0 ∷ []) All ∷ Send 0 0 5 [] false ∷ End ∷ []

chain_order : order_of (serial chain 3 [] 5) ≡ 0 ∷ 1 ∷ 2 ∷ 1 ∷ 2 ∷ 2 ∷ 0 ∷ 2 ∷ 0 ∷ []
chain_order = refl
