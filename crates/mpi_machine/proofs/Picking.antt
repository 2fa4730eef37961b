-- Attempts that pick.
use Rattle.std.proofs.Common.{◌≡◌, ◌≢◌, ◌≤◌, ◌<◌, ◌&&◌, ◌∙◌, ◌++◌, ◌∷◌, Bool, List, None, Option, Some, [], ap, arith, false, inl, inr, is_some, length, length-append, refl, subst, sym, true, ℕ}
use Rattle.std.specs.List.{slice_set}
use Rattle.mpi_call.specs.declared.call.Call.{Call}
use Rattle.mpi_call.specs.declared.call.Call.TheVariants.{Peek, Post}
use Rattle.mpi_call.specs.declared.call.Halt.{Halt}
use Rattle.mpi_call.specs.declared.reply.Reply.{Reply}
use Rattle.mpi_call.specs.declared.reply.Reply.TheVariants.{Done}
use Rattle.match_core.specs.Starts.{is_peek, is_post}
use Rattle.run_model.specs.declared.event.Event.{Event}
use Rattle.run_model.specs.Chosen.{halt_or, peek_reply, peeked_at}
use Rattle.run_model.specs.Due.{due}
use Rattle.run_model.specs.Pairs.{name_at}
use Rattle.run_model.specs.Program.{MayGive}
use Rattle.run_model.specs.Run.{IsPromptRun}
use Rattle.run_model.specs.Serial.{Stage, call_after}
use Rattle.run_model.specs.Views.{Next, is_start, moment_at, replies_in, view_of}
use Rattle.run_model.proofs.Prompt.{IsPromptRun-event, kept_all, kept_prompt, prompt_event}
use Rattle.run_model.proofs.RunLaws.{Lawful, event_shaped}
use Rattle.run_model.proofs.Views.{test_cases}
use Rattle.picked_runs.specs.declared.turn.Pick.{Pick}
use Rattle.picked_runs.specs.declared.turn.Pick.TheVariants.{First, Sender, Index}
use Rattle.picked_runs.specs.declared.turn.Turn.{Turn}
use Rattle.picked_runs.specs.PickLaws.{AreMorePicked}
use Rattle.picked_runs.specs.Picked.{IsPicked, picks_and}
use Rattle.picked_runs.specs.Picks.{has_pick, looks, picked_choice, picked_event, picked_mate, picked_reply}
use Rattle.picked_runs.specs.Turns.{take_turn, turn_with}
use Rattle.picked_runs.proofs.GoingOn.{picks_go_on}
use Rattle.picked_runs.proofs.Making.{event_is, has_it}
use Rattle.picked_runs.proofs.Padding.{length-picks}
use Rattle.requests.specs.Histories.{KnowsHistory}
use Rattle.requests.specs.States.{MatchingState}
use Rattle.mpi_machine.specs.Courses.{bound_of}
use Rattle.mpi_machine.specs.Made.{IsMadeByPicks, IsNeeded, noted}
use Rattle.mpi_machine.specs.Picking.{HasPicked, IsWritten, after_pick, picked_of}
use Rattle.mpi_machine.specs.Turns.{IsAsked, MachineState, IsAtStage}
use Rattle.mpi_machine.specs.Waits.{AreWaitingCalls, KeepsHistory}
use Rattle.mpi_machine.proofs.Answering.{due_free}
use Rattle.mpi_machine.proofs.Growing.{event_with, few_more, kept_after}
use Rattle.mpi_machine.proofs.Moving.{machine_with}
use Rattle.mpi_machine.proofs.Needed.{needed_more, needed_same}
use Rattle.mpi_machine.proofs.Serially.{Waiting, answered_waiting}
use Rattle.mpi_machine.proofs.Written.{has_written}

-- no attempt changes the program
pub same_pick_program : {P : Type 0} (machine : MachineState P) (rank : ℕ) (call : Call) (pick : Pick) (answer : Option Reply) → (after_pick machine rank call pick answer).program ≡ machine.program
same_pick_program machine rank call pick None = refl
same_pick_program machine rank call pick (Some reply) = refl

few_after : (picks : List Pick) (events : List Event) (event : Event) (pick : Pick) → length (picks_and picks (length events) pick) ≤ length (events ++ event ∷ [])
few_after picks events event pick = omega (arith, length-picks picks (length events) pick, length-append events (event ∷ []))

-- the events and what they picked, with one more
made_more : (next : Next) (n : ℕ) (picks : List Pick) (events : List Event) (event : Event) (pick : Pick) → IsMadeByPicks next n picks events
    → AreMorePicked next n picks events pick event → IsNeeded n events event pick → IsMadeByPicks next n (noted picks (length events) pick) (events ++ event ∷ [])
made_more next n picks events event First made m needed =
    let same = m.same refl made.few in
    record { run = same.run; along = same.along; needed = needed_same n [] events picks event made.needed made.few; few = few_more picks events event made.few }
made_more next n picks events event (Sender sender) made m needed =
    let pick : Pick = Sender sender in
    record { run = m.more.run; along = m.more.along; needed = needed_more n [] events picks event pick made.needed needed; few = few_after picks events event pick }
made_more next n picks events event (Index index) made m needed =
    let pick : Pick = Index index in
    record { run = m.more.run; along = m.more.along; needed = needed_more n [] events picks event pick made.needed needed; few = few_after picks events event pick }

-- what is kept after it
pub picked_keeps : (next : Next) (n : ℕ) (picks : List Pick) (events : List Event) (kept : List (Option Call)) (state : MatchingState) (rank : ℕ) (call : Call) (pick : Pick) (reply : Reply) (event : Event)
    → Lawful next → IsMadeByPicks next n picks events → AreWaitingCalls next n events kept → HasPicked next (moment_at n events rank) call pick reply
    → picked_event n events rank call pick ≡ event → KnowsHistory n (events ++ event ∷ []) state
    → KeepsHistory next n (noted picks (length events) pick) (events ++ event ∷ []) (slice_set kept rank None) state
picked_keeps next n picks events kept state rank call pick reply event lawful made are has is knows =
    let one : Event = picked_event n events rank call pick in
    let F : Event → Type 0 = λ e. KnowsHistory n (events ++ e ∷ []) state in
    let G : Event → Type 0 = λ e. KeepsHistory next n (noted picks (length events) pick) (events ++ e ∷ []) (slice_set kept rank None) state in
    let here : F one = subst F (sym is) knows in
    let run : IsPicked next n picks events = record { run = made.run; along = made.along } in
    let more = picks_go_on next n lawful picks events rank call pick run has.asked.below has.asked.asked has.offered (inl has.go) here.matcher.matched in
    let after : G one = record {
      made = made_more next n picks events one pick made more has.needed;
      knows = here;
      kept_are = kept_after next n events one kept are has.asked.below;
    } in
    subst G is after

-- a receive or a probe has no halt of its own
looks_free : (n : ℕ) (events : List Event) (me : ℕ) (call : Call) → looks call ≡ true → bound_of events ≡ None → due n events me (view_of events me) call ≡ None
looks_free n events me (Post comm source tag room) h free = due_free n events (view_of events me) me (Post comm source tag room) free
looks_free n events me (Peek comm source tag wait) h free = due_free n events (view_of events me) me (Peek comm source tag wait) free
looks_free n events me call h free = absurd (cc)

pub both : (a b : Bool) → a ≡ true → b ≡ true → (a && b) ≡ true
both true b p q = q
both false b p q = absurd (cc)

pub sender_apart : (sender : ℕ) → Sender sender ≢ First
sender_apart sender = λ e. (let no : Sender sender ≡ First = e in cc)

sender_offered : (n : ℕ) (events : List Event) (me : ℕ) (call : Call) (sender at : ℕ) → looks call ≡ true → bound_of events ≡ None
    → picked_choice events me call (Sender sender) ≡ Some at → has_pick n events me call (Sender sender) ≡ true
sender_offered n events me call sender at h free found =
    has_it n events me call (Sender sender) (looks_free n events me call h free)
    (both (looks call) (is_some (picked_choice events me call (Sender sender))) h (ap is_some found))

-- a receive that takes the message of a sender, with what is written down of it
pub post_picks : (next : Next) (n : ℕ) (picks : List Pick) (events : List Event) (rank : ℕ) (call : Call) (sender mate : ℕ) (written : Pick) → IsMadeByPicks next n picks events
    → IsAsked next n events rank call → is_post call ≡ true → bound_of events ≡ None → picked_choice events rank call (Sender sender) ≡ Some mate
    → (has_pick n events rank call (Sender sender) ≡ true → IsWritten n events rank call (Sender sender) written) → HasPicked next (moment_at n events rank) call written Done
post_picks next n picks events rank (Post comm source tag room) sender mate written made asked post free found is =
    let call : Call = Post comm source tag room in
    let offered = sender_offered n events rank call sender mate refl free found in
    has_written next n picks events rank call (Sender sender) written Done made asked (sender_apart sender) offered
    (ap (λ (o : Option Halt). halt_or o Done) (looks_free n events rank call refl free)) (is offered)
post_picks next n picks events rank call sender mate written made asked post free found is = absurd (cc)

pub post_event : (n : ℕ) (events : List Event) (rank : ℕ) (call : Call) (sender mate : ℕ) (written : Pick) → is_post call ≡ true → bound_of events ≡ None
    → picked_choice events rank call (Sender sender) ≡ Some mate → (has_pick n events rank call (Sender sender) ≡ true → IsWritten n events rank call (Sender sender) written)
    → picked_event n events rank call written ≡ event_with rank call Done (Some mate)
post_event n events rank (Post comm source tag room) sender mate written post free found is =
    let call : Call = Post comm source tag room in
    let reply : picked_reply n events rank call (Sender sender) ≡ Done = ap (λ (o : Option Halt). halt_or o Done) (looks_free n events rank call refl free) in
    sym (is (sender_offered n events rank call sender mate refl free found)).picked.event_is ∙ event_is n events rank call (Sender sender) Done (Some mate) reply found
post_event n events rank call sender mate written post free found is = absurd (cc)

-- a probe that finds the message of a sender
pub peek_offered : (n : ℕ) (events : List Event) (rank : ℕ) (call : Call) (sender at : ℕ) → is_peek call ≡ true → bound_of events ≡ None
    → picked_choice events rank call (Sender sender) ≡ Some at → has_pick n events rank call (Sender sender) ≡ true
peek_offered n events rank (Peek comm source tag wait) sender at peek free found = sender_offered n events rank (Peek comm source tag wait) sender at refl free found
peek_offered n events rank call sender at peek free found = absurd (cc)

pub peek_picks : (next : Next) (n : ℕ) (picks : List Pick) (events : List Event) (rank : ℕ) (call : Call) (sender at : ℕ) (written : Pick) (reply : Reply) → IsMadeByPicks next n picks events
    → IsAsked next n events rank call → is_peek call ≡ true → bound_of events ≡ None → picked_choice events rank call (Sender sender) ≡ Some at
    → reply ≡ peeked_at events (name_at events at)
    → (has_pick n events rank call (Sender sender) ≡ true → IsWritten n events rank call (Sender sender) written) → HasPicked next (moment_at n events rank) call written reply
peek_picks next n picks events rank (Peek comm source tag wait) sender at written reply made asked peek free found same is =
    let call : Call = Peek comm source tag wait in
    let offered = sender_offered n events rank call sender at refl free found in
    let reply_is : picked_reply n events rank call (Sender sender) ≡ reply =
    ap (λ (o : Option Halt). halt_or o (peek_reply events wait (picked_choice events rank call (Sender sender)))) (looks_free n events rank call refl free)
    ∙ (ap (peek_reply events wait) found ∙ sym same) in
    has_written next n picks events rank call (Sender sender) written reply made asked (sender_apart sender) offered reply_is (is offered)
peek_picks next n picks events rank call sender at written reply made asked peek free found same is = absurd (cc)

pub picked_idle : (n : ℕ) (events : List Event) (rank : ℕ) (call : Call) (pick : Pick) (reply : Reply) → picked_reply n events rank call pick ≡ reply
    → is_start (call, reply) ≡ false → picked_event n events rank call pick ≡ event_with rank call reply None
picked_idle n events rank call pick reply is idle =
    let none : picked_mate events rank call reply pick ≡ None = rw idle refl in
    event_is n events rank call pick reply None is none

pub idle_picked : (next : Next) (n : ℕ) (events : List Event) (rank : ℕ) (call : Call) (pick : Pick) (reply : Reply) → HasPicked next (moment_at n events rank) call pick reply
    → is_start (call, reply) ≡ false → picked_event n events rank call pick ≡ event_with rank call reply None
idle_picked next n events rank call pick reply has idle = picked_idle n events rank call pick reply has.reply_is idle

-- a pick that can be made is answered, and the machine is then this
pub picked_is : (n : ℕ) (events : List Event) (rank : ℕ) (call : Call) (pick : Pick) (reply : Reply) → has_pick n events rank call pick ≡ true
    → picked_reply n events rank call pick ≡ reply → Some reply ≡ picked_of n events rank call pick
picked_is n events rank call pick reply offered is = rw offered (ap (λ (r : Reply). Some r) (sym is))

pub after_event : {P : Type 0} (program : P) (n : ℕ) (events : List Event) (kept : List (Option Call)) (rank : ℕ) (call : Call) (pick : Pick) (reply : Reply) (event : Event)
    → picked_event n events rank call pick ≡ event
    → machine_with program n (events ++ event ∷ []) (slice_set kept rank None) ≡ after_pick (machine_with program n events kept) rank call pick (Some reply)
after_event program n events kept rank call pick reply event is = ap (λ (e : Event). machine_with program n (events ++ e ∷ []) (slice_set kept rank None)) (sym is)

-- the reply may be given
pub picked_given : {P : Type 0} (next : Next) (machine later : MachineState P) (rank : ℕ) (call : Call) (pick : Pick) (answer : Option Reply) (reply : Reply)
    → Lawful next → IsPromptRun next machine.ranks machine.events → IsPromptRun next later.ranks later.events
    → answer ≡ picked_of machine.ranks machine.events rank call pick → later ≡ after_pick machine rank call pick answer → answer ≡ Some reply
    → MayGive next machine.ranks rank (replies_in (view_of machine.events rank)) reply
picked_given {P} next machine later rank call pick answer reply lawful run run_later is after replied =
    let n : ℕ = machine.ranks in
    let events : List Event = machine.events in
    let one : Event = picked_event n events rank call pick in
    let F : MachineState P → Type 0 = λ m. IsPromptRun next m.ranks m.events in
    let longer : F (after_pick machine rank call pick (Some reply)) = subst F (after ∙ ap (λ a. after_pick machine rank call pick a) replied) run_later in
    let kept = kept_prompt next n events lawful run in
    let step = IsPromptRun-event next n events [] one longer in
    let made : picked_reply n events rank call pick ≡ reply = elim (test_cases (has_pick n events rank call pick)) [
      | inl t ↦ (
          let here : Some (picked_reply n events rank call pick) ≡ Some reply = sym (rw t at is) ∙ replied in
          cc)
      | inr t ↦ (
          let here : None ≡ Some reply = sym (rw t at is) ∙ replied in
          absurd (cc))
    ] in
    let G : Reply → Type 0 = λ r. MayGive next n rank (replies_in (view_of events rank)) r in
    subst G made (record {
      view = view_of events rank;
      call = call;
      replies_are = refl;
      came = kept.came rank step.rank;
      asked = step.call;
      shaped = event_shaped next n events one lawful run.some run.few (kept_all next n events kept) (prompt_event next n events one kept.matched step);
    })

-- a turn stands where the machine stands
abbrev stage_with : List Event → List ℕ → Stage
stage_with events waiting = record { events = events; waiting = waiting }

turned : {P : Type 0} (program : P) (next : Next) (n : ℕ) (events : List Event) (kept : List (Option Call)) (waiting : List ℕ) (rank : ℕ) (call : Call) (pick : Pick) → pick ≢ First
    → length kept ≡ n → rank < n → Waiting waiting kept
    → IsAtStage (after_pick (machine_with program n events kept) rank call pick (picked_of n events rank call pick))
    (turn_with next n (stage_with events waiting) rank pick (Some call))
turned program next n events kept waiting rank call First apart many below w = absurd (apart refl)
turned program next n events kept waiting rank call (Sender sender) apart many below w =
    let answered = answered_waiting waiting kept rank (omega arith) w in
    elim (test_cases (has_pick n events rank call (Sender sender))) [
      | inl t ↦ rw t (record { events = refl; waiting = answered.same })
      | inr t ↦ rw t (record { events = refl; waiting = w.same })
    ]
turned program next n events kept waiting rank call (Index index) apart many below w =
    let answered = answered_waiting waiting kept rank (omega arith) w in
    elim (test_cases (has_pick n events rank call (Index index))) [
      | inl t ↦ rw t (record { events = refl; waiting = answered.same })
      | inr t ↦ rw t (record { events = refl; waiting = w.same })
    ]

pub picked_stands : {P : Type 0} (next : Next) (machine later : MachineState P) (rank : ℕ) (call : Call) (pick : Pick) (answer : Option Reply) (stage : Stage) → pick ≢ First
    → length machine.kept ≡ machine.ranks → rank < machine.ranks → call_after next machine.ranks machine.events rank ≡ Some call
    → answer ≡ picked_of machine.ranks machine.events rank call pick → later ≡ after_pick machine rank call pick answer
    → IsAtStage machine stage → IsAtStage later (take_turn next machine.ranks stage (record { rank = rank; pick = pick }))
picked_stands {P} next machine later rank call pick answer stage apart many below asked is after s =
    let n : ℕ = machine.ranks in
    let events : List Event = machine.events in
    let turn : Turn = record { rank = rank; pick = pick } in
    let here : stage_with stage.events stage.waiting ≡ stage_with events stage.waiting = ap (λ e. stage_with e stage.waiting) s.events in
    let M : MachineState P = after_pick machine rank call pick (picked_of n events rank call pick) in
    let F : Stage → Type 0 = λ x. IsAtStage M (take_turn next n x turn) in
    let G : Option Call → Type 0 = λ c. IsAtStage M (turn_with next n (stage_with events stage.waiting) rank pick c) in
    let H : MachineState P → Type 0 = λ m. IsAtStage m (take_turn next n stage turn) in
    let one : F (stage_with events stage.waiting) =
    subst G (sym asked) (turned machine.program next n events machine.kept stage.waiting rank call pick apart many below (record { same = s.waiting })) in
    subst H (sym (after ∙ ap (λ a. after_pick machine rank call pick a) is)) (subst F (sym here) one)
