-- Worked examples, by computing.
use Rattle.std.proofs.Common.{◌≡◌, ℕ, ℤ, List, [], ◌∷◌, Option, Some, None, true, false, inl, take, drop, refl, pos, negsuc}
use Rattle.mpi_call.specs.declared.call.Call.{Call}
use Rattle.mpi_call.specs.declared.call.Call.TheVariants.{Send, Post, Enter, Take, End}
use Rattle.mpi_call.specs.declared.call.Source.TheVariants.{Any, From}
use Rattle.mpi_call.specs.declared.call.Tag.TheVariants.{Any as AnyTag, Is}
use Rattle.mpi_call.specs.declared.call.TakeMode.TheVariants.{All}
use Rattle.mpi_call.specs.declared.call.Kind.TheVariants.{Barrier, Bcast, Allreduce, Split}
use Rattle.mpi_call.specs.declared.call.Op.TheVariants.{Sum}
use Rattle.mpi_call.specs.declared.call.Halt.TheVariants.{BadRequest, Mismatched}
use Rattle.mpi_call.specs.declared.reply.Got.{Got}
use Rattle.mpi_call.specs.declared.reply.Got.TheVariants.{Message, Joined, Made}
use Rattle.mpi_call.specs.declared.reply.Reply.{Reply}
use Rattle.mpi_call.specs.declared.reply.Reply.TheVariants.{Done, Took}
use Rattle.run_model.specs.declared.event.Event.{Event}
use Rattle.run_model.specs.Views.{moment_at, view_of}
use Rattle.run_model.specs.Pairs.{pairs_of}
use Rattle.run_model.specs.Due.{due}
use Rattle.run_model.specs.Allowed.{can_go, flags_of, has_open}
use Rattle.srr_entry.specs.declared.entry.Mark.{Mark}
use Rattle.srr_entry.specs.declared.entry.Mark.TheVariants.{Inside, Outside, Inner, Outer, Made as MarkMade, MadeOutside}
use Rattle.srr_entry.specs.declared.entry.Entry.{Entry}
use Rattle.srr_entry.specs.declared.entry.Entry.TheVariants.{Posted, Entered, Ended as EntryEnded, Took as EntryTook}
use Rattle.srr_entry.specs.Entries.{entries_from, log_of}
use Rattle.replay_model.specs.declared.step.Missing.TheVariants.{Start, Member}
use Rattle.replay_model.specs.declared.step.Step.TheVariants.{Replied, Wait, Diverged}
use Rattle.replay_model.specs.Fits.{entry_fits}
use Rattle.replay_model.specs.Replays.{replay_answer}
use Rattle.replay_model.specs.Rests.{IsCutOff, follows, call_rested_on, rests, rests_on, stops}

abbrev pub event : ℕ → Call → Reply → Option ℕ → Event
event rank call reply mate = record { rank = rank; call = call; reply = reply; mate = mate; met = [] }

abbrev pub one : ℕ → Got → Reply
one index got = Took ((record { index = index; got = got }) ∷ [])

abbrev marked : ℕ → Mark → Entry
marked index mark = EntryTook ((record { index = index; mark = mark }) ∷ [])

abbrev pub receive : Call
receive = Post 0 Any (Is 9) 1

-- a wildcard receive, twice
abbrev pub run3 : List Event
run3 =
    event 1 (Send 0 2 9 (pos 1 ∷ []) false) Done None
    ∷ event 0 (Send 0 2 9 (pos 0 ∷ []) false) Done None
    ∷ event 1 End Done None
    ∷ event 2 receive Done (Some 0)
    ∷ event 0 End Done None
    ∷ event 2 (Take (0 ∷ []) All) (one 0 (Message 1 0 9 (pos 1 ∷ []))) None
    ∷ event 2 receive Done (Some 1)
    ∷ event 2 (Take (1 ∷ []) All) (one 0 (Message 0 0 9 (pos 0 ∷ []))) None
    ∷ event 2 End Done None ∷ []

entries3 : entries_from 3 (0 ∷ 1 ∷ 2 ∷ []) 2 [] (view_of run3 2) ≡ Posted ∷ marked 0 (Inside 1 0) ∷ Posted ∷ marked 0 (Inside 0 0) ∷ EntryEnded ∷ []
entries3 = refl

-- the same run, where ranks 0 and 2 are a group
entries4 : entries_from 3 (0 ∷ 2 ∷ []) 2 [] (view_of run3 2) ≡ Posted ∷ marked 0 (Outside 1 0 9 (pos 1 ∷ [])) ∷ Posted ∷ marked 0 (Inside 0 0) ∷ EntryEnded ∷ []
entries4 = refl

pairs3 : pairs_of run3 ≡ ((1, 0), (2, 0)) ∷ ((0, 0), (2, 1)) ∷ []
pairs3 = refl

-- the first Take, after five events
ready3 : flags_of (moment_at 3 (take 5 run3) 2) (0 ∷ []) ≡ true ∷ []
ready3 = refl

due3 : due 3 (take 5 run3) 2 (view_of (take 5 run3) 2) (Take (0 ∷ []) All) ≡ None
due3 = refl

-- a replay that has made rank 2's first event and rank 1's
answer3 : replay_answer (log_of [] 3 run3 (0 ∷ 1 ∷ 2 ∷ [])) None (view_of (event 1 (Send 0 2 9 (pos 1 ∷ []) false) Done None ∷ event 2 receive Done None ∷ [])) 2 ((receive, Done) ∷ []) (Take (0 ∷ []) All) ≡ Replied (one 0 (Message 1 0 9 (pos 1 ∷ [])))
unfolding entry_fits
answer3 = refl

-- without the Send
wait3 : replay_answer (log_of [] 3 run3 (0 ∷ 1 ∷ 2 ∷ [])) None (view_of (event 2 receive Done None ∷ [])) 2 ((receive, Done) ∷ []) (Take (0 ∷ []) All) ≡ Wait (Start 1 0)
unfolding entry_fits
wait3 = refl

-- the named start is a Send to another rank
diverged16 : replay_answer (log_of [] 3 run3 (0 ∷ 1 ∷ 2 ∷ [])) None (view_of (event 1 (Send 0 0 9 (pos 1 ∷ []) false) Done None ∷ event 2 receive Done None ∷ [])) 2 ((receive, Done) ∷ []) (Take (0 ∷ []) All) ≡ Diverged (record { rank = 2; call_number = 1; entry = marked 0 (Inside 1 0); call = Take (0 ∷ []) All; found = Some (record { rank = 1; start = 0; call = Send 0 0 9 (pos 1 ∷ []) false }) })
unfolding entry_fits
diverged16 = refl

-- that Take rests on the Send whose message it took, rank 1's call 0
rests3 : rests 3 2 ((receive, Done) ∷ []) (Take (0 ∷ []) All) (marked 0 (Inside 1 0)) ≡ Start 1 0 ∷ []
rests3 = refl

number3 : call_rested_on (view_of run3) (Start 1 0) ≡ Some 0
number3 = refl

-- a breakpoint before that Send cuts it off, and so the second receive, the call after it
cut3 : IsCutOff 3 (0 ∷ 1 ∷ 2 ∷ []) (view_of run3) (Some (1, 0)) 2 2
cut3 =
    follows 2 1 (rests_on 2 ((receive, Done) ∷ []) (drop 2 (view_of run3 2)) (Take (0 ∷ []) All) (one 0 (Message 1 0 9 (pos 1 ∷ []))) (Start 1 0) 0
    refl refl (inl refl) refl (stops 1 0 refl))

-- two ranks that both receive first wait for ever
abbrev run9 : List Event
run9 = event 0 (Post 0 (From 1) (Is 5) 1) Done None ∷ event 1 (Post 0 (From 0) (Is 5) 1) Done None ∷ []

stuck9 : can_go 2 run9 0 (view_of run9 0) (Take (0 ∷ []) All) ≡ false
stuck9 = refl

-- a probe finds a message
abbrev run12 : List Event
run12 = event 0 (Send 0 1 3 (pos 0 ∷ []) false) Done None ∷ []

open12 : has_open 2 run12 1 0 Any AnyTag ≡ true
open12 = refl

-- a start that was never made
bad30 : due 2 [] 0 [] (Take (0 ∷ []) All) ≡ Some (BadRequest 0 0)
bad30 = refl

-- ranks 0 and 1 in a group: a broadcast from rank 0, then a sum over all
abbrev broadcast : List ℤ → Call
broadcast ints = Enter 0 Bcast (Some 0) None 1 ints

abbrev summed : ℤ → Call
summed int = Enter 0 Allreduce None (Some Sum) 1 (int ∷ [])

abbrev pub view13 : List (Call × Reply)
view13 = (broadcast [], Done) ∷ (Take (0 ∷ []) All, one 0 (Joined (pos 5 ∷ []))) ∷ (summed (pos 2), Done) ∷ (Take (1 ∷ []) All, one 0 (Joined (pos 6 ∷ []))) ∷ (End, Done) ∷ []

inner13 : entries_from 3 (0 ∷ 1 ∷ []) 1 [] view13 ≡ Entered ∷ marked 0 Inner ∷ Entered ∷ marked 0 (Outer (pos 6 ∷ [])) ∷ EntryEnded ∷ []
inner13 = refl

outer13 : entries_from 3 (1 ∷ []) 1 [] view13 ≡ Entered ∷ marked 0 (Outer (pos 5 ∷ [])) ∷ Entered ∷ marked 0 (Outer (pos 6 ∷ [])) ∷ EntryEnded ∷ []
outer13 = refl

-- ranks 0 and 2 split off; rank 1 has no colour
abbrev split_by : ℤ → Call
split_by colour = Enter 0 Split None None 0 (colour ∷ pos 0 ∷ [])

entries14 : entries_from 3 (0 ∷ 1 ∷ 2 ∷ []) 0 [] ((split_by (pos 1), Done) ∷ (Take (0 ∷ []) All, one 0 (Made 1 (0 ∷ 2 ∷ []))) ∷ []) ≡ Entered ∷ marked 0 (MarkMade 1) ∷ []
entries14 = refl

alone14 : entries_from 3 (0 ∷ []) 0 [] ((split_by (pos 1), Done) ∷ (Take (0 ∷ []) All, one 0 (Made 1 (0 ∷ 2 ∷ []))) ∷ []) ≡ Entered ∷ marked 0 (MadeOutside 1 (0 ∷ 2 ∷ [])) ∷ []
alone14 = refl

uncoloured14 : entries_from 3 (1 ∷ []) 1 [] ((split_by (negsuc 32765), Done) ∷ (Take (0 ∷ []) All, one 0 (Made 0 [])) ∷ []) ≡ Entered ∷ marked 0 (MarkMade 0) ∷ []
uncoloured14 = refl

-- what replay makes of the marks
abbrev run14 : List Event
run14 = event 0 (split_by (pos 1)) Done None ∷ event 1 (split_by (negsuc 32765)) Done None ∷ event 2 (split_by (pos 1)) Done None ∷ event 0 (Take (0 ∷ []) All) (one 0 (Made 1 (0 ∷ 2 ∷ []))) None ∷ []

answer14 : replay_answer (log_of [] 3 run14 (0 ∷ 1 ∷ 2 ∷ [])) None (view_of (take 3 run14)) 0 (view_of (take 3 run14) 0) (Take (0 ∷ []) All) ≡ Replied (one 0 (Made 1 (0 ∷ 2 ∷ [])))
unfolding entry_fits
answer14 = refl

-- the new communicator rests on the Enters of all members, each its rank's call 0
rests14 : rests 3 0 ((split_by (pos 1), Done) ∷ []) (Take (0 ∷ []) All) (marked 0 (MarkMade 1)) ≡ Member 0 0 0 ∷ Member 1 0 0 ∷ Member 2 0 0 ∷ []
rests14 = refl

number14 : call_rested_on (view_of run14) (Member 2 0 0) ≡ Some 0
number14 = refl

-- a barrier against a broadcast
mismatch27 : due 2 (event 0 (Enter 0 Barrier None None 0 []) Done None ∷ []) 1 [] (Enter 0 Bcast (Some 0) None 1 []) ≡ Some (Mismatched 1)
mismatch27 = refl
