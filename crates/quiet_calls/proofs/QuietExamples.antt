-- Small runs: who sees a synchronous send, two receives from one sender, a message that is too long, and why neither the Enter of a collective nor
-- a receive from a rank that tests can go first.
use Rattle.std.proofs.Common.{◌≡◌, ◌∷◌, ℕ, zero, suc, List, [], Some, None, true, false, length, refl, slice_get, pos}
use Rattle.mpi_call.specs.declared.call.Call.{Call}
use Rattle.mpi_call.specs.declared.call.Call.TheVariants.{Abort, End, Enter, Post, Send, Take}
use Rattle.mpi_call.specs.declared.call.Halt.TheVariants.{Aborted, Mismatched, Truncated}
use Rattle.mpi_call.specs.declared.call.Kind.TheVariants.{Barrier, Bcast}
use Rattle.mpi_call.specs.declared.call.Source.TheVariants.{Any, From}
use Rattle.mpi_call.specs.declared.call.Tag.TheVariants.{Any as AnyTag}
use Rattle.mpi_call.specs.declared.call.TakeMode.TheVariants.{All, TestAll}
use Rattle.mpi_call.specs.declared.reply.Got.TheVariants.{Joined, Sent}
use Rattle.mpi_call.specs.declared.reply.Reply.{Reply}
use Rattle.mpi_call.specs.declared.reply.Reply.TheVariants.{Done, NotYet, Stopped, Took}
use Rattle.run_model.specs.declared.ending.Ending.TheVariants.{Halted}
use Rattle.run_model.specs.declared.event.Event.{Event}
use Rattle.run_model.specs.Due.{is_mismatched}
use Rattle.run_model.specs.Pairs.{pairs_of, partner_of}
use Rattle.run_model.specs.Serial.{first_stage, rounds}
use Rattle.run_model.specs.Views.{Next}
use Rattle.picked_runs.specs.declared.turn.Pick.TheVariants.{First}
use Rattle.picked_runs.specs.declared.turn.Turn.{Turn}
use Rattle.picked_runs.specs.Picks.{picked_reply}
use Rattle.picked_runs.specs.Turns.{take_turns}
use Rattle.run_states.specs.Outcomes.{outcome_of_run}
use Rattle.quiet_calls.specs.Closure.{any_race}
use Rattle.quiet_calls.specs.Quiet.{Races, is_calm, is_quiet}

-- programs whose ranks make these calls whatever the replies
abbrev Script : Type 0
Script = ℕ → List Call

abbrev script : Script → Next
script calls n rank replies = slice_get (calls rank) (length replies)

abbrev recorded : Script → ℕ → List Turn → ℕ → List Event
recorded calls n turns count = (rounds (script calls) n count (take_turns (script calls) n first_stage turns)).events

abbrev plain : ℕ → Turn
plain rank = record { rank = rank; pick = First }

abbrev silent : ℕ → ℕ → List Reply → List ℕ
silent n rank replies = []

-- no race is reckoned with
abbrev no_one : Races
no_one = record { ranks = λ rank. false; partial = false }

-- 1. rank 1 tests its synchronous send to rank 0: it sees whether rank 0 has posted its receive
abbrev watched : Script
watched zero = Post 0 (From 1) AnyTag 1 ∷ Take (0 ∷ []) All ∷ End ∷ []
watched rank = Send 0 0 1 [] true ∷ Take (0 ∷ []) TestAll ∷ End ∷ []

in_vain : picked_reply 2 (recorded watched 2 (plain 1 ∷ []) 0) 1 (Take (0 ∷ []) TestAll) First ≡ NotYet
in_vain = refl

in_time : picked_reply 2 (recorded watched 2 (plain 1 ∷ plain 0 ∷ []) 0) 1 (Take (0 ∷ []) TestAll) First ≡ Took (record { index = 0; got = Sent } ∷ [])
in_time = refl

-- so the receive is quiet only if rank 1 is not among those that make no racy call, and then the run is not calm
receive_waits : is_quiet any_race (Post 0 (From 1) AnyTag 1) ≡ false
receive_waits = refl

not_calm : is_calm no_one (recorded watched 2 (plain 1 ∷ plain 1 ∷ []) 0) ≡ false
not_calm = refl

calm_but_for_it : is_calm any_race (recorded watched 2 (plain 1 ∷ plain 1 ∷ []) 0) ≡ true
calm_but_for_it = refl

-- 2. two receives of rank 0 from rank 1, and two sends: whoever comes first, the first meets the first
abbrev twice : Script
twice zero = Post 0 (From 1) AnyTag 1 ∷ Post 0 (From 1) AnyTag 1 ∷ Take (0 ∷ 1 ∷ []) All ∷ End ∷ []
twice rank = Send 0 0 1 [] false ∷ Send 0 0 1 [] false ∷ End ∷ []

receives_first : partner_of (pairs_of (recorded twice 2 (plain 0 ∷ plain 0 ∷ plain 1 ∷ plain 1 ∷ []) 0)) (0, 1) ≡ Some (1, 1)
receives_first = refl

sends_first : partner_of (pairs_of (recorded twice 2 (plain 1 ∷ plain 1 ∷ plain 0 ∷ plain 0 ∷ []) 0)) (0, 1) ≡ Some (1, 1)
sends_first = refl

crosswise : partner_of (pairs_of (recorded twice 2 (plain 0 ∷ plain 1 ∷ plain 1 ∷ plain 0 ∷ []) 0)) (0, 1) ≡ Some (1, 1)
crosswise = refl

-- 3. a completion whose message is too long is answered by a halt, so it is not quiet
abbrev short : Script
short zero = Post 0 (From 1) AnyTag 0 ∷ Take (0 ∷ []) All ∷ End ∷ []
short rank = Send 0 0 1 (pos 7 ∷ []) false ∷ End ∷ []

too_long : picked_reply 2 (recorded short 2 (plain 0 ∷ plain 1 ∷ []) 0) 0 (Take (0 ∷ []) All) First ≡ Stopped (Truncated 0 0)
too_long = refl

-- 4. ranks 0 and 1 enter a broadcast, after which rank 1 aborts; rank 2 enters a barrier. If rank 2 is late the run is aborted. If its Enter went
-- first, alone, each other Enter would be mismatched: so an Enter is not quiet, though none disagrees with it yet
abbrev broadcasts : Call
broadcasts = Enter 0 Bcast (Some 0) None 0 []

abbrev waits : Call
waits = Enter 0 Barrier None None 0 []

abbrev crooked : Script
crooked zero = broadcasts ∷ Take (0 ∷ []) All ∷ End ∷ []
crooked (suc zero) = broadcasts ∷ Take (0 ∷ []) All ∷ Abort (pos 1) ∷ []
crooked rank = waits ∷ Take (0 ∷ []) All ∷ End ∷ []

aborted : (outcome_of_run silent 3 (recorded crooked 3 (plain 0 ∷ plain 1 ∷ plain 1 ∷ plain 1 ∷ []) 3)).ending ≡ Halted (Aborted 1 (pos 1))
aborted = refl

enters : picked_reply 3 [] 2 waits First ≡ Done
enters = refl

never_again : picked_reply 3 (recorded crooked 3 (plain 2 ∷ []) 0) 0 broadcasts First ≡ Stopped (Mismatched 0)
never_again = refl

nor_by_another : picked_reply 3 (recorded crooked 3 (plain 2 ∷ []) 0) 1 broadcasts First ≡ Stopped (Mismatched 1)
nor_by_another = refl

-- the run does not agree with the barrier
disagreed : is_mismatched 3 (recorded crooked 3 (plain 0 ∷ []) 0) [] waits ≡ true
disagreed = refl

agreed : is_mismatched 3 (recorded crooked 3 (plain 0 ∷ []) 0) [] broadcasts ≡ false
agreed = refl

-- 5. a test sees whether a rank has entered
abbrev tested : Script
tested zero = waits ∷ Take (0 ∷ []) TestAll ∷ End ∷ []
tested rank = waits ∷ Take (0 ∷ []) All ∷ End ∷ []

not_yet : picked_reply 2 (recorded tested 2 (plain 0 ∷ []) 0) 0 (Take (0 ∷ []) TestAll) First ≡ NotYet
not_yet = refl

entered : picked_reply 2 (recorded tested 2 (plain 0 ∷ plain 1 ∷ []) 0) 0 (Take (0 ∷ []) TestAll) First ≡ Took (record { index = 0; got = Joined [] } ∷ [])
entered = refl

enter_waits : is_quiet any_race waits ≡ false
enter_waits = refl

enter_goes : is_quiet no_one waits ≡ true
enter_goes = refl

-- 6. two sends to one receive from any: the one that goes first takes it, so a send to a rank that posts such a receive is not quiet
abbrev wild : Script
wild zero = Post 0 Any AnyTag 1 ∷ Take (0 ∷ []) All ∷ End ∷ []
wild rank = Send 0 0 1 [] false ∷ End ∷ []

one_meets : partner_of (pairs_of (recorded wild 3 (plain 0 ∷ plain 1 ∷ plain 2 ∷ []) 0)) (0, 0) ≡ Some (1, 0)
one_meets = refl

other_meets : partner_of (pairs_of (recorded wild 3 (plain 0 ∷ plain 2 ∷ plain 1 ∷ []) 0)) (0, 0) ≡ Some (2, 0)
other_meets = refl

racy_receiver : is_quiet any_race (Send 0 0 1 [] false) ≡ false
racy_receiver = refl
