-- What may be late, and what may not.
-- A receive that waits for a later message: rank 1 posts a receive from any source, and ranks 0, 1 and 2 meet in a barrier. Rank 0 sends before
-- it and rank 2 behind it. The first receive gets the message of rank 2, and a second one, posted last, that of rank 0.
use Rattle.std.proofs.Common.{◌≡◌, ℕ, ℤ, pos, List, [], ◌∷◌, None, Some, Bool, true, false, inl, inr, refl, subst, arith, take}
use Rattle.mpi_call.specs.declared.call.Call.{Call}
use Rattle.mpi_call.specs.declared.call.Call.TheVariants.{Enter, Peek, Post, Send, Take}
use Rattle.mpi_call.specs.declared.call.Kind.TheVariants.{Barrier}
use Rattle.mpi_call.specs.declared.call.Source.{Source}
use Rattle.mpi_call.specs.declared.call.Source.TheVariants.{Any, From}
use Rattle.mpi_call.specs.declared.call.Tag.{Tag}
use Rattle.mpi_call.specs.declared.call.Tag.TheVariants.{Any as AnyTag, Is}
use Rattle.mpi_call.specs.declared.call.TakeMode.TheVariants.{All, TestAll}
use Rattle.mpi_call.specs.declared.reply.Got.{Got}
use Rattle.mpi_call.specs.declared.reply.Got.TheVariants.{Joined, Message}
use Rattle.mpi_call.specs.declared.reply.Item.{Item}
use Rattle.mpi_call.specs.declared.reply.Reply.{Reply}
use Rattle.mpi_call.specs.declared.reply.Reply.TheVariants.{Done, NotYet, Peeked, Took}
use Rattle.mpi_call.specs.Lists.{IsIn}
use Rattle.run_model.specs.declared.event.Event.{Event}
use Rattle.run_model.specs.Allowed.{IsFound, IsLate, IsPassed, flags_of, has_open}
use Rattle.run_model.specs.Due.{due}
use Rattle.run_model.specs.Pairs.{MeetInTurn, IsAllMatched, Name, PostAccepts, named, pairs_of, partner_of}
use Rattle.run_model.specs.ProbeLaws.{AsksForProbed}
use Rattle.run_model.specs.Run.{IsRun}
use Rattle.run_model.specs.Views.{Moment, Next, moment_at}

abbrev event : ℕ → Call → Reply → List (Name × Name) → Event
event rank call reply met = record { rank = rank; call = call; reply = reply; mate = None; met = met }

abbrev item : ℕ → Got → Item
item index got = record { index = index; got = got }

abbrev receive : Call
receive = Post 0 Any AnyTag 1

abbrev message : ℤ → Call
message int = Send 0 1 0 (int ∷ []) false

abbrev barrier : Call
barrier = Enter 0 Barrier None None 0 []

abbrev left : ℕ → ℕ → Event
left rank start = event rank (Take (start ∷ []) All) (Took (item 0 (Joined []) ∷ [])) []

abbrev crooked : List Event
crooked =
    event 1 receive Done []
    ∷ event 0 (message (pos 100)) Done []
    ∷ event 0 barrier Done []
    ∷ event 1 barrier Done []
    ∷ event 2 barrier Done []
    ∷ left 0 1
    ∷ left 1 1
    ∷ left 2 0
    ∷ event 2 (message (pos 200)) Done (((1, 0), (2, 1)) ∷ [])
    ∷ event 1 receive Done (((1, 2), (0, 0)) ∷ [])
    ∷ event 1 (Take (0 ∷ 2 ∷ []) All) (Took (item 0 (Message 2 1 0 (pos 200 ∷ [])) ∷ item 1 (Message 0 0 0 (pos 100 ∷ [])) ∷ [])) []
    ∷ []

pairs : pairs_of crooked ≡ ((1, 0), (2, 1)) ∷ ((1, 2), (0, 0)) ∷ []
pairs = refl

-- both receives are ready for the last completion, and the first is not before
ready : flags_of (moment_at 3 (take 10 crooked) 1) (0 ∷ 2 ∷ []) ≡ true ∷ true ∷ []
ready = refl

not_before : flags_of (moment_at 3 (take 8 crooked) 1) (0 ∷ []) ≡ false ∷ []
not_before = refl

nothing_due : due 3 (take 10 crooked) 1 (moment_at 3 (take 10 crooked) 1).own (Take (0 ∷ 2 ∷ []) All) ≡ None
nothing_due = refl

-- no machine leaves the first message waiting
not_prompt : IsAllMatched (take 2 crooked) → ⊥
not_prompt all =
    all.nothing_waits (1, 0) (0, 0) (record { post_call = receive; send_call = message (pos 100); post_is = refl; send_is = refl; accepted = refl }) refl refl

-- there a test may be answered in vain, and so may one of a receive that is ready
in_vain : IsLate (moment_at 3 (take 10 crooked) 1) (Take (0 ∷ []) TestAll) NotYet
in_vain = inl (refl, omega arith, refl)

-- a probe of rank 1 would find the message of rank 0 there, but its receive is still to get one
open_there : has_open 3 (take 2 crooked) 1 0 Any AnyTag ≡ true
open_there = refl

not_passed : IsPassed (take 2 crooked) 1 (Peeked 0 0 0 1) → ⊥
not_passed passed =
    let no : false ≡ true = passed 0 (record { post_call = receive; send_call = message (pos 100); post_is = refl; send_is = refl; accepted = refl }) in
    cc

-- Rank 1 asks for rank 0's message with a probe that does not wait, and finds it.
abbrev look : Bool → Call
look wait = Peek 0 Any AnyTag wait

abbrev probed : List Event
probed = event 0 (message (pos 100)) Done [] ∷ event 1 (look false) (Peeked 0 0 0 1) [] ∷ []

-- it is there still
is_found : IsFound (moment_at 2 probed 1) 0 Any AnyTag
is_found =
    record {
      send = (0, 0);
      call = message (pos 100);
      t = 0;
      count = 1;
      found = inl refl;
      sent = refl;
      accepted = refl;
      unpaired = refl;
      passed = λ number takes. absurd (let no : None ≡ Some takes.post_call = takes.post_is in cc);
    }

-- so the next such probe finds it too
found_again : IsLate (moment_at 2 probed 1) (look false) NotYet → ⊥
found_again late = late.2 is_found

-- the first might have been answered in vain
not_yet : IsLate (moment_at 2 (take 1 probed) 1) (look false) NotYet
not_yet = (refl, refl, λ is. is.found)

-- and so may one behind a receive that the message can go to
abbrev asked : List Event
asked = event 0 (message (pos 100)) Done [] ∷ event 1 (look false) (Peeked 0 0 0 1) [] ∷ event 1 receive Done [] ∷ []

not_found : (send : Name) (call : Call) (t count : ℕ) → IsIn (Peeked send.0 send.1 t count) (Peeked 0 0 0 1 ∷ Done ∷ [])
    → IsPassed asked 1 (Peeked send.0 send.1 t count) → ⊥
not_found send call t count (inl is) passed =
    let one : 0 ≡ send.0 = cc in
    let two : 0 ≡ send.1 = cc in
    let F : ℕ → ℕ → Type 0 = λ a b. PostAccepts (named asked) (1, 0) (a, b) in
    let G : ℕ → Type 0 = λ b. F 0 b in
    let H : ℕ → Type 0 = λ a. F a send.1 in
    let takes : PostAccepts (named asked) (1, 0) (0, 0) =
    record { post_call = receive; send_call = message (pos 100); post_is = refl; send_is = refl; accepted = refl } in
    let no : false ≡ true = passed 0 (subst H one (subst G two takes)) in
    cc
not_found send call t count (inr (inl is)) passed = cc
not_found send call t count (inr (inr is)) passed = is

not_yet_again : IsLate (moment_at 2 asked 1) (look false) NotYet
not_yet_again = (refl, refl, λ is. not_found is.send is.call is.t is.count is.found is.passed)

-- a receive with the source and the tag that the probe returned
abbrev receive_probed : Call
receive_probed = Post 0 (From 0) (Is 0) 1

abbrev gotten : List Event
gotten =
    event 0 (message (pos 100)) Done []
    ∷ event 1 (look false) (Peeked 0 0 0 1) []
    ∷ event 1 receive_probed Done (((1, 0), (0, 0)) ∷ [])
    ∷ []

asks_for_probed : AsksForProbed (take 1 gotten) gotten (1, 0) (0, 0) 0
asks_for_probed =
    record {
      later = omega arith;
      comm = 0;
      room = 1;
      posted = refl;
      takes = record { post_call = receive_probed; send_call = message (pos 100); post_is = refl; send_is = refl; accepted = refl };
      first = λ other later less takes. absurd (omega (arith, less));
    }

gets_it : partner_of (pairs_of gotten) (1, 0) ≡ Some (0, 0)
gets_it = refl

-- a probe that waits is not answered in vain
never_in_vain : (moment : Moment) (comm : ℕ) (source : Source) (tag : Tag) → IsLate moment (Peek comm source tag true) NotYet → ⊥
never_in_vain moment comm source tag late = (let no : true ≡ false = late.0 in cc)

-- Messages do not overtake: rank 1's receive does not meet rank 0's second message while the first waits.
abbrev overtaking : List Event
overtaking =
    event 0 (message (pos 100)) Done []
    ∷ event 0 (message (pos 200)) Done []
    ∷ event 1 receive Done (((1, 0), (0, 1)) ∷ [])
    ∷ []

accepted : (events : List Event) (post send : Name) (int : ℤ) → named events post ≡ Some receive → named events send ≡ Some (message int)
    → post.0 ≡ 1 → PostAccepts (named events) post send
accepted events post send int posted sent rank =
    record { post_call = receive; send_call = message int; post_is = posted; send_is = sent; accepted = rw rank refl }

no_overtaking : MeetInTurn (named overtaking) [] (((1, 0), (0, 1)) ∷ []) → ⊥
no_overtaking are =
    let no : false ≡ true = are.3.no_overtaking (1, 0) (0, 1) refl 0 (omega arith) (accepted overtaking (1, 0) (0, 0) (pos 100) refl refl refl) in
    cc

overtaking_is_no_run : (next : Next) (n : ℕ) → IsRun next n overtaking → ⊥
overtaking_is_no_run next n run = no_overtaking run.along.1.1.0.meets

-- nor does it where a second receive, behind it, then meets the first message
abbrev crossing : List (Name × Name)
crossing = ((1, 0), (0, 1)) ∷ ((1, 1), (0, 0)) ∷ []

abbrev crossed : List Event
crossed =
    event 0 (message (pos 100)) Done []
    ∷ event 0 (message (pos 200)) Done []
    ∷ event 1 receive Done []
    ∷ event 1 receive Done crossing
    ∷ []

no_crossing : MeetInTurn (named crossed) [] crossing → ⊥
no_crossing are =
    let no : false ≡ true = are.3.0.no_overtaking (1, 0) (0, 1) refl 0 (omega arith) (accepted crossed (1, 0) (0, 0) (pos 100) refl refl refl) in
    cc

crossed_is_no_run : (next : Next) (n : ℕ) → IsRun next n crossed → ⊥
crossed_is_no_run next n run = no_crossing run.along.1.1.1.0.meets

-- The earliest receive first: rank 1's second receive does not meet the message while the first waits for one.
abbrev passing : List Event
passing =
    event 1 receive Done []
    ∷ event 1 receive Done []
    ∷ event 0 (message (pos 100)) Done (((1, 1), (0, 0)) ∷ [])
    ∷ []

no_passing : MeetInTurn (named passing) [] (((1, 1), (0, 0)) ∷ []) → ⊥
no_passing are =
    let no : false ≡ true = are.3.earliest_receive (1, 1) (0, 0) refl 0 (omega arith) (accepted passing (1, 0) (0, 0) (pos 100) refl refl refl) in
    cc

passing_is_no_run : (next : Next) (n : ℕ) → IsRun next n passing → ⊥
passing_is_no_run next n run = no_passing run.along.1.1.0.meets
