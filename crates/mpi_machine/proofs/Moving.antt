-- A machine after each kind of answer.
use Rattle.std.proofs.Common.{◌≡◌, ◌&&◌, ◌∙◌, ◌++◌, ◌∷◌, Bool, List, None, Option, Some, [], ap, false, refl, subst, sym, true, ℕ}
use Rattle.std.proofs.lemmas.Bool.{and_parts}
use Rattle.std.specs.List.{slice_set}
use Rattle.mpi_call.specs.declared.call.Call.{Call}
use Rattle.mpi_call.specs.declared.call.Call.TheVariants.{Abort, End, Enter, Peek, Post, Send, Take, Trap}
use Rattle.mpi_call.specs.declared.call.Halt.{Halt}
use Rattle.mpi_call.specs.declared.reply.Reply.{Reply}
use Rattle.mpi_call.specs.declared.reply.Reply.TheVariants.{Done}
use Rattle.mpi_call.specs.Calls.{is_starting}
use Rattle.requests.specs.Histories.{IsIdleEvent, KnowsHistory, KnowsStart}
use Rattle.requests.specs.States.{MatchingState}
use Rattle.run_model.specs.declared.event.Event.{Event}
use Rattle.run_model.specs.Choice.{choice, chosen_mate}
use Rattle.run_model.specs.Chosen.{chosen_event, chosen_reply, peeked_at, peeked_in}
use Rattle.run_model.specs.Pairs.{Name, named}
use Rattle.run_model.specs.Program.{ends}
use Rattle.run_model.specs.Views.{Next, is_start, moment_at, taken_of}
use Rattle.run_model.proofs.RunLaws.{Lawful}
use Rattle.mpi_machine.specs.declared.answer.Answer.TheVariants.{Replied}
use Rattle.picked_runs.specs.declared.turn.Pick.{Pick}
use Rattle.mpi_machine.specs.Courses.{has_ended}
use Rattle.mpi_machine.specs.Made.{IsMadeByPicks}
use Rattle.mpi_machine.specs.Turns.{HasReply, IsAsked, MachineState, after_answer, last_reply, takes_no_memory, answer_by, attempt_answer}
use Rattle.mpi_machine.specs.Waits.{AreWaitingCalls, KeepsHistory}
use Rattle.mpi_machine.proofs.Growing.{event_is, event_with, grown, idle_event, live}

pub turn_is : (next : Next) (n : ℕ) (events : List Event) (kept : List (Option Call)) (rank : ℕ) (call : Call) (reply : Reply)
    → HasReply next (moment_at n events rank) kept call reply → attempt_answer next n events kept rank call ≡ Replied reply
turn_is next n events kept rank call reply has =
    ap (λ b. answer_by b (chosen_reply n events rank call)) has.answered ∙ ap (λ (r : Reply). Replied r) has.reply_is

abbrev pub machine_with : {P : Type 0} → P → ℕ → List Event → List (Option Call) → MachineState P
machine_with program n events kept = record { program = program; ranks = n; events = events; kept = kept }

-- the machine after the answer whose event this is
pub after_event : {P : Type 0} (program : P) (next : Next) (n : ℕ) (events : List Event) (kept : List (Option Call)) (rank : ℕ) (call : Call) (reply : Reply) (event : Event)
    → HasReply next (moment_at n events rank) kept call reply → chosen_event n events rank call ≡ event
    → machine_with program n (events ++ event ∷ []) (slice_set kept rank None)
    ≡ after_answer (machine_with program n events kept) rank call (attempt_answer next n events kept rank call)
after_event program next n events kept rank call reply event has is =
    ap (λ e. machine_with program n (events ++ e ∷ []) (slice_set kept rank None)) (sym is)
    ∙ ap (λ t. after_answer (machine_with program n events kept) rank call t) (sym (turn_is next n events kept rank call reply has))

-- what is kept of a machine's fields is kept of what contracts see
pub keeps_now : {P : Type 0} (next_of : P → Next) (picks : List Pick) (inside now : MachineState P) (state : MatchingState) → inside ≡ now
    → KeepsHistory (next_of inside.program) inside.ranks picks inside.events inside.kept state → KeepsHistory (next_of now.program) now.ranks picks now.events now.kept state
keeps_now {P} next_of picks inside now state same keeps =
    let F : MachineState P → Type 0 = λ m. KeepsHistory (next_of m.program) m.ranks picks m.events m.kept state in
    subst F same keeps

-- the machine after a reply whose event this is
pub after_reply : {P : Type 0} (program : P) (n : ℕ) (events : List Event) (kept : List (Option Call)) (rank : ℕ) (call : Call) (reply : Reply) (event : Event)
    → chosen_event n events rank call ≡ event
    → machine_with program n (events ++ event ∷ []) (slice_set kept rank None) ≡ after_answer (machine_with program n events kept) rank call (Replied reply)
after_reply program n events kept rank call reply event is = ap (λ e. machine_with program n (events ++ e ∷ []) (slice_set kept rank None)) (sym is)

-- a rank with a next call has not ended
pub live_in : (next : Next) (n : ℕ) (picks : List Pick) (events : List Event) (kept : List (Option Call)) (state : MatchingState) (rank : ℕ) (call : Call)
    → Lawful next → KeepsHistory next n picks events kept state → IsAsked next n events rank call → has_ended events rank ≡ false
live_in next n picks events kept state rank call lawful keeps asked = live next n events rank call lawful keeps.made.run asked.below asked.asked

pub idle_keeps : (next : Next) (n : ℕ) (picks : List Pick) (events : List Event) (kept : List (Option Call)) (state : MatchingState) (rank : ℕ) (call : Call) (reply : Reply)
    → Lawful next → IsMadeByPicks next n picks events → AreWaitingCalls next n events kept → HasReply next (moment_at n events rank) kept call reply → is_start (call, reply) ≡ false
    → KnowsHistory n (events ++ event_with rank call reply None ∷ []) state
    → KeepsHistory next n picks (events ++ event_with rank call reply None ∷ []) (slice_set kept rank None) state
idle_keeps next n picks events kept state rank call reply lawful made are has idle knows =
    let g = grown next n picks events kept rank call reply (event_with rank call reply None) lawful made are has
    (idle_event n events rank call reply has.reply_is idle) knows.matcher.matched in
    record { made = g.made; knows = knows; kept_are = g.kept_are }

starting : (call : Call) → is_starting call ≡ true → is_start (call, Done) ≡ true
starting call h = rw h refl

mate_found : (events : List Event) (rank : ℕ) (call : Call) (mate : Option ℕ) → is_start (call, Done) ≡ true → mate ≡ choice events rank call
    → chosen_mate events rank call Done ≡ mate
mate_found events rank call mate h e = rw h (sym e)

pub start_event : (n : ℕ) (events : List Event) (rank : ℕ) (call : Call) (mate : Option ℕ) → chosen_reply n events rank call ≡ Done → is_starting call ≡ true
    → mate ≡ choice events rank call → chosen_event n events rank call ≡ event_with rank call Done mate
start_event n events rank call mate r kind e = event_is n events rank call Done mate r (mate_found events rank call mate (starting call kind) e)

pub start_keeps : (next : Next) (n : ℕ) (picks : List Pick) (events : List Event) (kept : List (Option Call)) (state : MatchingState) (rank : ℕ) (call : Call) (number : ℕ) (mate : Option ℕ)
    → Lawful next → IsMadeByPicks next n picks events → AreWaitingCalls next n events kept → HasReply next (moment_at n events rank) kept call Done → is_starting call ≡ true
    → KnowsStart (moment_at n events rank) call number mate state
    → KeepsHistory next n picks (events ++ event_with rank call Done mate ∷ []) (slice_set kept rank None) state
start_keeps next n picks events kept state rank call number mate lawful made are has kind knows =
    let g = grown next n picks events kept rank call Done (event_with rank call Done mate) lawful made are has
    (start_event n events rank call mate has.reply_is kind knows.choice_is) knows.knows.matcher.matched in
    record { made = g.made; knows = knows.knows; kept_are = g.kept_are }

and_no : (b : Bool) → (b && false) ≡ false
and_no true = refl
and_no false = refl

-- a rank's last event starts and completes nothing
pub last_idle : (rank : ℕ) (call : Call) (halt : Option Halt) → ends (call, last_reply halt) ≡ true → IsIdleEvent (event_with rank call (last_reply halt) None)
last_idle rank call (Some halt) h = record { no_start = and_no (is_starting call); none_taken = refl; alone = refl; none_met = refl }
last_idle rank End None h = record { no_start = refl; none_taken = refl; alone = refl; none_met = refl }
last_idle rank (Send comm dest tag ints sync) None h = absurd (cc)
last_idle rank (Post comm source tag room) None h = absurd (cc)
last_idle rank (Enter comm kind root op count ints) None h = absurd (cc)
last_idle rank (Take starts mode) None h = absurd (cc)
last_idle rank (Peek comm source tag wait) None h = absurd (cc)
last_idle rank (Abort code) None h = absurd (cc)
last_idle rank (Trap fault) None h = absurd (cc)

pub idle_with : (rank : ℕ) (call : Call) (reply : Reply) → is_start (call, reply) ≡ false → taken_of ((call, reply) ∷ []) ≡ [] → IsIdleEvent (event_with rank call reply None)
idle_with rank call reply s t = record { no_start = s; none_taken = t; alone = refl; none_met = refl }

-- what takes memory is no last reply
pub more_takes : (events : List Event) (call : Call) (reply other : Reply) → other ≡ reply → ends (call, reply) ≡ false → takes_no_memory events call other ≡ true → false ≡ true
more_takes events call reply other e h t =
    let F : Reply → Type 0 = λ r. takes_no_memory events call r ≡ true in
    let parts = and_parts (ends (call, reply)) _ (subst F e t) in
    sym h ∙ parts.0

pub starting_more : (call : Call) → is_starting call ≡ true → ends (call, Done) ≡ false
starting_more (Send comm dest tag ints sync) h = refl
starting_more (Post comm source tag room) h = refl
starting_more (Enter comm kind root op count ints) h = refl
starting_more (Take starts mode) h = absurd (cc)
starting_more (Peek comm source tag wait) h = absurd (cc)
starting_more (Abort code) h = absurd (cc)
starting_more (Trap fault) h = absurd (cc)
starting_more End h = absurd (cc)

peeked_in_more : (call : Call) (send : Name) (found : Option Call) → ends (call, peeked_in send found) ≡ false
peeked_in_more call send None = refl
peeked_in_more call send (Some (Send comm dest tag ints sync)) = refl
peeked_in_more call send (Some (Post comm source tag room)) = refl
peeked_in_more call send (Some (Enter comm kind root op count ints)) = refl
peeked_in_more call send (Some (Take starts mode)) = refl
peeked_in_more call send (Some (Peek comm source tag wait)) = refl
peeked_in_more call send (Some (Abort code)) = refl
peeked_in_more call send (Some (Trap fault)) = refl
peeked_in_more call send (Some End) = refl

pub peeked_more : (events : List Event) (call : Call) (found : Option Name) → ends (call, peeked_at events found) ≡ false
peeked_more events call None = refl
peeked_more events call (Some send) = peeked_in_more call send (named events send)
