-- A machine that makes the events of a run again, with what they picked.
use Rattle.std.proofs.Common.{◌≡◌, ◌≤◌, ◌+◌, ◌-◌, ◌∙◌, ◌++◌, ◌∷◌, ℕ, zero, suc, Bool, Err, MatchBool, List, [], Ok, OnOk, Option, Result, Some, None, append-nil, append_assoc, arith, drop, false, length, take, true, refl, ap, sym, subst}
use Rattle.std.specs.List.{slice_get, slice_index_or}
use Rattle.std.proofs.Math.Seq.{take-append_seam}
use Rattle.std.proofs.lemmas.List.{length-append}
use Rattle.mpi_call.specs.declared.call.Call.{Call}
use Rattle.mpi_call.specs.declared.call.Halt.{Halt}
use Rattle.mpi_call.specs.declared.call.Halt.TheVariants.{Stuck}
use Rattle.mpi_call.specs.declared.reply.Reply.TheVariants.{Stopped}
use Rattle.run_model.specs.declared.event.Event.{Event}
use Rattle.run_model.specs.Allowed.{IsPrompt}
use Rattle.run_model.specs.Due.{halt_of_reply, halted, or_else}
use Rattle.run_model.specs.Program.{Standing}
use Rattle.run_model.specs.Run.{IsPromptEvent, IsPromptRun}
use Rattle.run_model.specs.Views.{Next}
use Rattle.run_model.proofs.ChosenLaws.{cannot_go}
use Rattle.run_model.proofs.Prompt.{IsPromptRun-event}
use Rattle.picked_runs.specs.declared.turn.Pick.{Pick}
use Rattle.picked_runs.specs.declared.turn.Pick.TheVariants.{First, Sender, Index}
use Rattle.picked_runs.specs.Picks.{picked_event}
use Rattle.picked_runs.specs.Picked.{ArePicked, IsPicked, IsPickedEvent, later_picks, next_pick}
use Rattle.mpi_machine.specs.Turns.{MachineState}
use Rattle.explore.specs.Courses.{IsAhead, IsAnswered, IsCourse, IsTurnHeldBack}
use Rattle.explore.proofs.Recorded.{halted-append}

-- 1. the event at a position

-- a list around what stands at a position
split_at : {A : Type 0} (xs : List A) (k : ℕ) (x : A) → slice_get xs k ≡ Some x → (take k xs ++ x ∷ drop (suc k) xs ≡ xs) × (take (suc k) xs ≡ take k xs ++ x ∷ [])
split_at [] k x h = absurd (cc)
split_at (y ∷ ys) zero x h = (let same : y ≡ x = cc in (ap (λ z. z ∷ ys) (sym same), ap (λ z. z ∷ []) same))
split_at (y ∷ ys) (suc k) x h = (let rest = split_at ys k x h in (ap (λ l. y ∷ l) rest.0, ap (λ l. y ∷ l) rest.1))

one_more : {A : Type 0} (xs : List A) (k : ℕ) (x : A) → slice_get xs k ≡ Some x → take (k + 1) xs ≡ take k xs ++ x ∷ []
one_more xs k x h = (let same : k + 1 ≡ suc k = omega arith in ap (λ j. take j xs) same ∙ (split_at xs k x h).1)

front_pick : (picks : List Pick) → slice_index_or picks 0 First ≡ next_pick picks
front_pick [] = refl
front_pick (pick ∷ picks) = refl

behind_pick : (picks : List Pick) (at : ℕ) → slice_index_or (later_picks picks) at First ≡ slice_index_or picks (suc at) First
behind_pick [] at = refl
behind_pick (pick ∷ picks) at = refl

pick_there : (n : ℕ) (before : List Event) (picks : List Pick) (events : List Event) (at : ℕ) (event : Event) → ArePicked n before picks events
    → slice_get events at ≡ Some event → IsPickedEvent n (before ++ take at events) event (slice_index_or picks at First)
pick_there n before picks [] at event picked there = absurd (cc)
pick_there n before picks (first ∷ events) zero event picked there =
    let same : first ≡ event = cc in
    let F : Event → Type 0 = λ e. IsPickedEvent n before e (next_pick picks) in
    rw (append-nil, front_pick picks) (subst F same picked.0)
pick_there n before picks (first ∷ events) (suc at) event picked there =
    let rest = pick_there n (before ++ first ∷ []) (later_picks picks) events at event picked.1 there in
    let F : List Event → Pick → Type 0 = λ l p. IsPickedEvent n l event p in
    subst (λ l. F l (slice_index_or picks (suc at) First)) (append_assoc before (first ∷ []) (take at events))
    (subst (λ p. F ((before ++ first ∷ []) ++ take at events) p) (behind_pick picks at) rest)

-- 2. no halt among the first events

both_none : (one other : Option Halt) → or_else one other ≡ None → (one ≡ None) × (other ≡ None)
both_none None other h = (refl, h)
both_none (Some halt) other h = absurd (cc)

pub free_take : (events : List Event) (few many : ℕ) → few ≤ many → halted (take many events) ≡ None → halted (take few events) ≡ None
free_take events zero many h free = refl
free_take [] (suc few) many h free = refl
free_take (event ∷ events) (suc few) zero h free = absurd (omega (arith, h))
free_take (event ∷ events) (suc few) (suc many) h free =
    let parts = both_none (halt_of_reply event.reply) (halted (take many events)) free in
    let rest = free_take events few many (omega (arith, h)) parts.1 in
    ap (λ o. or_else o (halted (take few events))) parts.0 ∙ rest

-- 3. it is made again

pub again_asked : (next : Next) (n : ℕ) (events : List Event) (at : ℕ) (event : Event) → IsPromptRun next n events → slice_get events at ≡ Some event
    → IsPromptEvent next n (take at events) event
again_asked next n events at event run there =
    let F : List Event → Type 0 = λ l. IsPromptRun next n l in
    IsPromptRun-event next n (take at events) (drop (suc at) events) event (subst F (sym (split_at events at event there).0) run)

stuck_halts : (before : List Event) (event : Event) → event.reply ≡ Stopped Stuck → halted (before ++ event ∷ []) ≡ None → ⊥
stuck_halts before event stuck free =
    let last : or_else (halt_of_reply event.reply) None ≡ None = (both_none (halted before) (halted (event ∷ [])) (sym (halted-append before (event ∷ [])) ∙ free)).1 in
    let no : Some Stuck ≡ None = ap (λ r. or_else (halt_of_reply r) None) (sym stuck) ∙ last in
    absurd (cc)

not_held : (next : Next) (n : ℕ) (before after : List Event) (event : Event) (pick : Pick) → IsPickedEvent n before event pick
    → IsPrompt next n before event.rank event.call event.reply → halted (before ++ event ∷ []) ≡ None → IsTurnHeldBack n before after (record { rank = event.rank; pick = pick }) event.call → ⊥
not_held next n before after event First picked allowed free held =
    stuck_halts before event (cannot_go next n before event.rank event.call event.reply (held.held refl) allowed) free
not_held next n before after event (Sender sender) picked allowed free held =
    let no = held.absent (λ h. absurd (cc)) in
    let yes = picked.offered in
    absurd (cc)
not_held next n before after event (Index index) picked allowed free held =
    let no = held.absent (λ h. absurd (cc)) in
    let yes = picked.offered in
    absurd (cc)

pub again_made : (next : Next) (n : ℕ) (picks : List Pick) (events after : List Event) (at : ℕ) (event : Event) (answered : Bool) → IsPicked next n picks events
    → slice_get events at ≡ Some event → halted (take (at + 1) events) ≡ None
    → MatchBool answered (IsAnswered next n (take at events) after (record { rank = event.rank; pick = (slice_index_or picks at First) }) event.call) (IsTurnHeldBack n (take at events) after (record { rank = event.rank; pick = (slice_index_or picks at First) }) event.call)
    → after ≡ take (at + 1) events
again_made next n picks events after at event true picked there free made =
    let is = pick_there n [] picks events at event picked.along there in
    made.events_are ∙ (ap (λ e. take at events ++ e ∷ []) (sym is.event_is) ∙ sym (one_more events at event there))
again_made next n picks events after at event false picked there free made =
    let is = pick_there n [] picks events at event picked.along there in
    let H : List Event → Type 0 = λ l. halted l ≡ None in
    absurd (not_held next n (take at events) after event (slice_index_or picks at First) is (again_asked next n events at event picked.run there).reply
    (subst H (one_more events at event there) free) made)

-- 4. all but the last

pub all_but_last : (events before : List Event) (event : Event) → events ≡ before ++ event ∷ [] → take (length events - 1) events ≡ before
all_but_last events before event same =
    let F : List Event → Type 0 = λ l. take (length l - 1) l ≡ before in
    let many : length (before ++ event ∷ []) ≡ length before + 1 = length-append before (event ∷ []) in
    let count : length (before ++ event ∷ []) - 1 ≡ length before = omega (arith, many) in
    subst F (sym same) (ap (λ k. take k (before ++ event ∷ [])) count ∙ take-append_seam before (event ∷ []))

back_events : (made events history : List Event) (event : Event) (count : ℕ) → made ≡ take count history → count ≡ length history - 1 → history ≡ events ++ event ∷ [] → made ≡ events
back_events made events history event count is many same =
    is ∙ (ap (λ k. take k history) many ∙ all_but_last history events event same)

-- a machine that made all but the last event of one that was ahead stands where the runs stand
pub back_course : {P R : Type 0} (standing : R → Standing P) (program : P) (n : ℕ) (events history : List Event) (count : ℕ) (old first made : MachineState P) (runs : List R)
    → first.program ≡ program → first.ranks ≡ n → made.program ≡ first.program → made.ranks ≡ first.ranks → made.events ≡ take count history → count ≡ length history - 1
    → history ≡ old.events → IsAhead standing program n events old runs → IsCourse standing program n events made runs
back_course standing program n events history count old first made runs p r programs ranks is many same ahead =
    record {
      program_is = programs ∙ p;
      ranks_are = ranks ∙ r;
      events_are = back_events made.events events history ahead.event count is many (same ∙ ahead.events_are);
      runs_are = ahead.runs_are;
    }

pub on_ok_three : {T E : Type 0} (result : Result T E) (A B C D : Type 0) → (A → B → C → D) → OnOk result A → OnOk result B → OnOk result C → OnOk result D
on_ok_three (Ok x) A B C D f a b c = f a b c
on_ok_three (Err e) A B C D f a b c = tt

-- a machine that answered one more call is ahead of the runs
pub ahead_by : {P R : Type 0} (next : Next) (standing : R → Standing P) (program : P) (n : ℕ) (events : List Event) (one two : MachineState P) (runs : List R) (rank : ℕ) (call : Call) (pick : Pick)
    → IsCourse standing program n events one runs → two.program ≡ one.program → two.ranks ≡ one.ranks → IsAnswered next n events two.events (record { rank = rank; pick = pick }) call
    → IsAhead standing program n events two runs
ahead_by next standing program n events one two runs rank call pick is programs ranks answered =
    record {
      program_is = programs ∙ is.program_is;
      ranks_are = ranks ∙ is.ranks_are;
      event = picked_event n events rank call pick;
      events_are = answered.events_are;
      runs_are = is.runs_are;
    }
