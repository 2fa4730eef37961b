-- What each whole run comes to is met, where a search follows one quiet call alone.
use Rattle.std.proofs.Common.{◌≡◌, ◌<◌, ◌≤◌, ◌∙◌, ◌++◌, ◌+◌, ◌∷◌, ℕ, zero, suc, List, [], Some, None, true, false, append-nil, append_assoc, inl, inr, is_some, length, length-append, refl, ap, sym, subst, arith}
use Rattle.std.proofs.lemmas.Bool.{or_left, or_right}
use Rattle.mpi_call.specs.declared.call.Call.{Call}
use Rattle.mpi_call.specs.declared.call.Halt.{Halt}
use Rattle.mpi_call.specs.declared.limits.TheConstants.{MOST_EVENTS}
use Rattle.mpi_call.specs.declared.reply.Reply.TheVariants.{NotYet}
use Rattle.mpi_call.specs.Lists.{IsIn}
use Rattle.run_model.specs.declared.event.Event.{Event}
use Rattle.run_model.specs.Due.{halt_of_reply, halted, is_full, is_mismatched, or_else}
use Rattle.run_model.specs.Lists.{Along}
use Rattle.run_model.specs.Run.{IsPromptEvent, IsPromptRun}
use Rattle.run_model.specs.Views.{Next, View, replies_in, view_of}
use Rattle.run_model.proofs.Along.{Along-back, Along-front}
use Rattle.run_model.proofs.RunLaws.{Lawful}
use Rattle.run_model.proofs.Views.{length-view_of, option_cases}
use Rattle.picked_runs.specs.declared.turn.Pick.TheVariants.{First}
use Rattle.picked_runs.specs.Picks.{picked_event}
use Rattle.srr_entry.specs.Outputs.{Output}
use Rattle.run_states.specs.Moves.{IsVisited}
use Rattle.run_states.specs.Outcomes.{IsPatientEvent, IsProbeKept, IsWholeRun, RunOutcome, outcome_of_run, vain_after, vain_in}
use Rattle.run_states.specs.StateLaws.{EveryStepIsMade, FuturesAreSame, HaltsDecideOutcomes, HasLike, IsMadeStep, IsOutcomeMet, IsPatientStep}
use Rattle.quiet_calls.specs.Quiet.{GoesOnBehind, IsAgreed, Races, before_halt, is_calm}
use Rattle.quiet_calls.specs.Closure.{AreMovesMet, AreReckonedWith, IsFarBelow, IsOnItsWay, IsQuietCallMet, QuietCallsMissNothing, QuietCallsMissNothingPatient, SteadyCallsMissNothing, SteadyCallsMissNothingPatient, any_race}
use Rattle.quiet_calls.proofs.Room.{not_full}
use Rattle.quiet_calls.proofs.Runs.{IsGood}
use Rattle.quiet_calls.proofs.Commuting.{halted_append, halted_more}
use Rattle.quiet_calls.proofs.Fronting.{good_front}
use Rattle.quiet_calls.proofs.GoingFirst.{HasFirstHalt, all_free, along_join, first_halt, goes_first, stopped_by}
use Rattle.quiet_calls.proofs.Agreeing.{agreed_stopped, agreed_tail}
use Rattle.quiet_calls.proofs.FarBelow.{below_same, room_far}
use Rattle.quiet_calls.proofs.Onwards.{GoesOn, patience_across}
use Rattle.quiet_calls.proofs.Agreed.{all_reckoned, at_most, is_longer, none_left, one_less}
use Rattle.quiet_calls.proofs.Foreseen.{IsForeseenFrom, IsSearchedQuietly, all_agreed, all_calm, all_foreseen, back, calm_put}

-- what whole runs that go on from a history come to is met
abbrev IsAnswered : Next → Output → ℕ → ℕ → List (List Event) → List Event → Type 0
IsAnswered next output n most opened one =
    (more : List Event) → IsWholeRun next n (one ++ more) → Along (IsPatientEvent most) one more → IsOutcomeMet next output n opened (outcome_of_run output n (one ++ more))

abbrev LongerAreAnswered : Next → Output → ℕ → ℕ → List (List Event) → List (List Event) → List Event → Type 0
LongerAreAnswered next output n most opened visited one = (two : List Event) → IsIn two visited → length one < length two → IsAnswered next output n most opened two

-- 1. where what is made of a history is met

-- a whole run has its like, which goes on from the history that is met
met_answered : (next : Next) (output : Output) (n : ℕ) (races : Races) (most : ℕ) (visited : List (List Event)) → FuturesAreSame next output n
    → (c : IsSearchedQuietly next n races most visited) → (mid : List Event) (met : IsVisited n visited mid) → IsAnswered next output n most c.opened met.0
    → IsAnswered next output n most c.opened mid
met_answered next output n races most visited futures c mid met answered after whole patient =
    let two : List Event = met.0 in
    let way : IsOnItsWay next n two = c.runs two met.1 in
    let like : HasLike next output n mid two after = futures mid two after whole.run whole.numbered way.run way.numbered (back n two mid met.2) in
    let there : IsWholeRun next n (two ++ like.rest) = record {
      run = like.run;
      ended = λ rank below. ap (λ (v : View). next n rank (replies_in v)) (sym (like.future.views rank)) ∙ whole.ended rank below;
      numbered = like.numbered;
      probes = along_join IsProbeKept [] two like.rest way.probes (like.probes (Along-back IsProbeKept [] mid after whole.probes));
    } in
    let O : RunOutcome → Type 0 = λ o. IsOutcomeMet next output n c.opened o in
    subst O (sym like.outcome)
    (answered like.rest there (patience_across most mid two after like.rest (λ rank. sym (met.2.views rank)) like.future.views patient))

step_answered : (next : Next) (output : Output) (n : ℕ) (races : Races) (most : ℕ) (visited : List (List Event)) → FuturesAreSame next output n
    → (c : IsSearchedQuietly next n races most visited) → (one : List Event) (event : Event) → LongerAreAnswered next output n most c.opened visited one
    → IsVisited n visited (one ++ event ∷ []) → (after : List Event) → IsWholeRun next n (one ++ event ∷ after) → Along (IsPatientEvent most) one (event ∷ after)
    → IsOutcomeMet next output n c.opened (outcome_of_run output n (one ++ event ∷ after))
step_answered next output n races most visited futures c one event longer met after whole patient =
    let same : (one ++ event ∷ []) ++ after ≡ one ++ event ∷ after = append_assoc one (event ∷ []) after in
    let W : List Event → Type 0 = λ l. IsWholeRun next n l in
    let O : List Event → Type 0 = λ l. IsOutcomeMet next output n c.opened (outcome_of_run output n l) in
    subst O same
    (met_answered next output n races most visited futures c (one ++ event ∷ []) met (longer met.0 met.1 (is_longer n one met.0 event met.2)) after (subst W (sym same) whole) patient.1)

moves_answered : (next : Next) (output : Output) (n : ℕ) (races : Races) (most : ℕ) (visited : List (List Event)) → FuturesAreSame next output n → EveryStepIsMade next n
    → HaltsDecideOutcomes next output n → (c : IsSearchedQuietly next n races most visited) → (one : List Event) → IsIn one visited → IsIn one c.opened
    → AreMovesMet next n (IsPatientStep most) visited one → LongerAreAnswered next output n most c.opened visited one → IsAnswered next output n most c.opened one
moves_answered next output n races most visited futures steps decide c one there wide moves longer [] whole patient =
    let W : List Event → Type 0 = λ l. IsWholeRun next n l in
    let here : IsWholeRun next n one = subst W (append-nil one) whole in
    (one, wide, inl (record { ended = here.ended; outcome_is = ap (outcome_of_run output n) (append-nil one) }))
moves_answered next output n races most visited futures steps decide c one there wide moves longer (x ∷ after) whole patient =
    let made : IsMadeStep next n one x = steps one after x whole.run whole.numbered in
    elim (option_cases (halt_of_reply x.reply)) [
      | inl some ↦
          let stopped = stopped_by x.reply some.0 some.1 in (
            one,
            wide,
            inr (record {
              rank = x.rank;
              call = x.call;
              pick = made.pick;
              halt = some.0;
              halting = made.halts some.0 stopped;
              outcome_is = decide one after x some.0 whole.run whole.ended (c.runs one there).free stopped;
            }),
          )
      | inr free ↦
          let kept : Along IsProbeKept one (x ∷ after) = Along-back IsProbeKept [] one (x ∷ after) whole.probes in
          let W : Event → Type 0 = λ e. IsPatientStep most one e in
          let M : Event → Type 0 = λ e. IsVisited n visited (one ++ e ∷ []) in
          let met : IsVisited n visited (one ++ x ∷ []) =
          subst M (sym made.made) (moves x.rank x.call made.pick (made.moves free) (subst W made.made (kept.0, patient.0))) in
          step_answered next output n races most visited futures c one x longer met after whole patient
    ]

-- 2. where what a quiet call makes is

-- up to its first halt a whole run goes on without one
goes_to_halt : (next : Next) (n most : ℕ) (one more : List Event) → halted one ≡ None → IsWholeRun next n (one ++ more) → Along (IsPatientEvent most) one more
    → GoesOn next n most one (before_halt more)
goes_to_halt next n most one more none whole patient =
    let kept : Along IsProbeKept one more = Along-back IsProbeKept [] one more whole.probes in
    let I : List Event → Type 0 = λ l. IsGood next n (one ++ l) in
    let good : IsGood next n (one ++ more) = record { run = whole.run; numbered = whole.numbered } in
    let H : List Event → Type 0 = λ l. GoesOn next n most one l in
    elim (option_cases (halted more)) [
      | inl some ↦
          let f : HasFirstHalt more some.0 = first_halt more some.0 some.1 in
          let G : List Event → Type 0 = λ l. IsGood next n l in
          let K : List Event → Type 0 = λ l. Along IsProbeKept one l in
          let P : List Event → Type 0 = λ l. Along (IsPatientEvent most) one l in
          subst H (sym f.part)
          (record {
            good = good_front next n (one ++ f.before) (f.event ∷ f.after) (subst G (sym (append_assoc one f.before (f.event ∷ f.after))) (subst I f.whole good));
            free = halted_append one f.before ∙ (ap (λ o. or_else o (halted f.before)) none ∙ f.none);
            probes = Along-front IsProbeKept one f.before (f.event ∷ f.after) (subst K f.whole kept);
            patient = Along-front (IsPatientEvent most) one f.before (f.event ∷ f.after) (subst P f.whole patient);
          })
      | inr free ↦
          subst H (sym (all_free more free))
          (record { good = good; free = halted_append one more ∙ (ap (λ o. or_else o (halted more)) none ∙ free); probes = kept; patient = patient })
    ]

up_to_halt : (one more : List Event) (halt : Halt) (f : HasFirstHalt more halt) → one ++ more ≡ (one ++ before_halt more) ++ f.event ∷ f.after
up_to_halt one more halt f =
    ap (λ l. one ++ l) f.whole ∙ (ap (λ l. one ++ (l ++ f.event ∷ f.after)) (sym f.part) ∙ sym (append_assoc one (before_halt more) (f.event ∷ f.after)))

-- so it is calm, with the call that is answered by the halt
whole_calm : (next : Next) (n : ℕ) (races : Races) (most : ℕ) (one more : List Event) → IsForeseenFrom next n races most one → is_calm races one ≡ true → IsWholeRun next n (one ++ more)
    → GoesOn next n most one (before_halt more) → is_calm races (one ++ more) ≡ true
whole_calm next n races most one more foreseen past whole goes =
    let calm : is_calm races (one ++ before_halt more) ≡ true = all_calm next n races most one foreseen past (before_halt more) goes in
    elim (option_cases (halted more)) [
      | inl some ↦
          let f : HasFirstHalt more some.0 = first_halt more some.0 some.1 in
          let front : List Event = one ++ before_halt more in
          let same : one ++ more ≡ front ++ f.event ∷ f.after = up_to_halt one more some.0 f in
          let R : List Event → Type 0 = λ l. IsPromptRun next n l in
          let run : IsPromptRun next n (front ++ f.event ∷ f.after) = subst R same whole.run in
          let step : IsPromptEvent next n front f.event = (Along-back (IsPromptEvent next n) [] front (f.event ∷ f.after) run.along).0 in
          ap (is_calm races) same
          ∙ calm_put races front f.event f.after calm ((foreseen (before_halt more) goes).calls f.event.rank f.event.call step.rank step.call)
          (or_left (is_some (halt_of_reply f.event.reply)) (is_calm races f.after) (ap is_some f.here))
      | inr free ↦ ap (λ l. is_calm races (one ++ l)) (sym (all_free more free)) ∙ calm
    ]

-- nor does what comes behind the halt disagree
whole_agreed : (next : Next) (n : ℕ) (one more : List Event) (own : View) (call : Call) → IsWholeRun next n (one ++ more) → IsAgreed n (one ++ before_halt more) own call
    → halted (one ++ before_halt more) ≡ None → IsAgreed n (one ++ more) own call
whole_agreed next n one more own call whole agreed free enters =
    elim (option_cases (halted more)) [
      | inl some ↦
          let f : HasFirstHalt more some.0 = first_halt more some.0 some.1 in
          let front : List Event = one ++ before_halt more in
          let same : one ++ more ≡ front ++ f.event ∷ f.after = up_to_halt one more some.0 f in
          let R : List Event → Type 0 = λ l. IsPromptRun next n l in
          let run : IsPromptRun next n (front ++ f.event ∷ f.after) = subst R same whole.run in
          let steps = Along-back (IsPromptEvent next n) [] front (f.event ∷ f.after) run.along in
          let halts : halted (front ++ f.event ∷ []) ≡ Some some.0 = halted_more front f.event ∙ (ap (λ o. or_else o (halt_of_reply f.event.reply)) free ∙ f.here) in
          ap (λ l. is_mismatched n l own call) (same ∙ sym (append_assoc front (f.event ∷ []) f.after))
          ∙ agreed_tail next n some.0 own call (front ++ f.event ∷ []) f.after steps.1 halts
          (agreed_stopped n front f.event some.0 own call (stopped_by f.event.reply some.0 f.here) (agreed enters))
      | inr none ↦ ap (λ l. is_mismatched n (one ++ l) own call) (sym (all_free more none)) ∙ agreed enters
    ]

quiet_answered : (next : Next) (output : Output) (n : ℕ) → Lawful next → (races : Races) (most : ℕ) (visited : List (List Event)) → FuturesAreSame next output n → EveryStepIsMade next n
    → HaltsDecideOutcomes next output n → (c : IsSearchedQuietly next n races most visited) → (one : List Event) → IsIn one visited → IsQuietCallMet next n races visited one
    → LongerAreAnswered next output n most c.opened visited one → IsAnswered next output n most c.opened one
quiet_answered next output n lawful races most visited futures steps decide c one there quiet longer more whole patient =
    let q : Event = picked_event n one quiet.rank quiet.call First in
    let way : IsOnItsWay next n one = c.runs one there in
    let kept : Along IsProbeKept one more = Along-back IsProbeKept [] one more whole.probes in
    let far : IsFarBelow (one ++ q ∷ []) = below_same quiet.met.0 (one ++ q ∷ []) quiet.met.2.views (c.runs quiet.met.0 quiet.met.1).below in
    let foreseen : IsForeseenFrom next n races most one = all_foreseen next output n lawful races most visited futures steps c one there in
    let goes : GoesOn next n most one (before_halt more) = goes_to_halt next n most one more way.free whole patient in
    let below : IsFarBelow (one ++ before_halt more) = (foreseen (before_halt more) goes).below in
    let calm : is_calm races (one ++ more) ≡ true = whole_calm next n races most one more foreseen (c.reckoned.past one there) whole goes in
    let full : is_full (one ++ q ∷ before_halt more) ≡ false = not_full (one ++ q ∷ before_halt more) (room_far one (before_halt more) q far below) in
    let b : GoesOnBehind next output n one more q = goes_first next output n lawful futures decide races one more quiet.rank quiet.call quiet.quiet whole
    calm (whole_agreed next n one more (view_of one quiet.rank) quiet.call whole
    (all_agreed next output n lawful races most visited futures steps c one there quiet (before_halt more) goes) goes.free) full in
    let O : RunOutcome → Type 0 = λ o. IsOutcomeMet next output n c.opened o in
    subst O (sym b.outcome) (step_answered next output n races most visited futures c one q longer quiet.met b.rest b.whole (b.patient most patient))

-- 3. of all of them

by_length : (next : Next) (output : Output) (n : ℕ) → Lawful next → (races : Races) (most : ℕ) (visited : List (List Event)) → FuturesAreSame next output n → EveryStepIsMade next n
    → HaltsDecideOutcomes next output n → (c : IsSearchedQuietly next n races most visited) → (k : ℕ) (one : List Event) → IsIn one visited → MOST_EVENTS ≤ length one + k
    → IsAnswered next output n most c.opened one
by_length next output n lawful races most visited futures steps decide c zero one there enough more whole patient =
    absurd (none_left (length one) MOST_EVENTS (c.runs one there).below.count enough)
by_length next output n lawful races most visited futures steps decide c (suc k) one there enough more whole patient =
    let longer : LongerAreAnswered next output n most c.opened visited one =
    λ two in_two less. by_length next output n lawful races most visited futures steps decide c k two in_two (one_less (length one) (length two) MOST_EVENTS k enough less) in
    elim (c.more one there) [
      | inl moves ↦ moves_answered next output n races most visited futures steps decide c one there moves.0 moves.1 longer more whole patient
      | inr quiet ↦ quiet_answered next output n lawful races most visited futures steps decide c one there quiet longer more whole patient
    ]

all_answered : (next : Next) (output : Output) (n : ℕ) → Lawful next → (races : Races) (most : ℕ) (visited : List (List Event)) → FuturesAreSame next output n → EveryStepIsMade next n
    → HaltsDecideOutcomes next output n → (c : IsSearchedQuietly next n races most visited) → (root : List Event) → IsVisited n visited root → IsAnswered next output n most c.opened root
all_answered next output n lawful races most visited futures steps decide c root met =
    met_answered next output n races most visited futures c root met
    (by_length next output n lawful races most visited futures steps decide c MOST_EVENTS met.0 met.1 (at_most MOST_EVENTS (length met.0)))

pub patient_missed : (next : Next) (output : Output) (n : ℕ) → Lawful next → FuturesAreSame next output n → EveryStepIsMade next n → HaltsDecideOutcomes next output n
    → QuietCallsMissNothingPatient next output n
patient_missed next output n lawful futures steps decide most races root more opened visited closed reckoned whole patient =
    all_answered next output n lawful races most visited futures steps decide
    (record { opened = opened; runs = closed.runs; more = closed.more; reckoned = all_reckoned next n races root (IsPatientStep most) opened visited closed reckoned })
    root closed.first more whole patient

-- 4. every run is patient enough

vain_few : (count : ℕ) (view : View) → vain_after count view ≤ count + length view
vain_few count [] = omega arith
vain_few count ((call, NotYet) ∷ view) = (let rest : vain_after (suc count) view ≤ suc count + length view = vain_few (suc count) view in omega (arith, rest))
vain_few count ((call, reply) ∷ view) = (let rest : vain_after 0 view ≤ 0 + length view = vain_few 0 view in omega (arith, rest))

one_more : (count : ℕ) → count < suc count
one_more count = omega arith

patient_enough : (most : ℕ) (before events : List Event) → length (before ++ events) < most → Along (IsPatientEvent most) before events
patient_enough most before [] less = tt
patient_enough most before (event ∷ events) less =
    let F : List Event → Type 0 = λ l. length l < most in
    let all : length (before ++ event ∷ events) ≡ length before + suc (length events) = length-append before (event ∷ events) in
    let vain : vain_in (view_of before event.rank) ≤ 0 + length (view_of before event.rank) = vain_few 0 (view_of before event.rank) in
    let few : length (view_of before event.rank) ≤ length before = length-view_of before event.rank in (
      λ held. omega (arith, less, all, vain, few),
      patient_enough most (before ++ event ∷ []) events (subst F (sym (append_assoc before (event ∷ []) events)) less),
    )

pub nothing_missed : (next : Next) (output : Output) (n : ℕ) → Lawful next → FuturesAreSame next output n → EveryStepIsMade next n → HaltsDecideOutcomes next output n
    → QuietCallsMissNothing next output n
nothing_missed next output n lawful futures steps decide races root more opened visited closed reckoned whole =
    let most : ℕ = suc (length (root ++ more)) in
    all_answered next output n lawful races most visited futures steps decide
    (record {
      opened = opened;
      runs = closed.runs;
      more = λ before there. elim (closed.more before there) [
        | inl moves ↦ inl (moves.0, λ rank call pick move wanted. moves.1 rank call pick move wanted.0)
        | inr quiet ↦ inr quiet
      ];
      reckoned = all_reckoned next n races root IsProbeKept opened visited closed reckoned;
    }) root closed.first more whole (patient_enough most root more (one_more (length (root ++ more))))

-- 5. the steady calls alone

any_calm : (events : List Event) → is_calm any_race events ≡ true
any_calm [] = refl
any_calm (event ∷ events) = or_right (is_some (halt_of_reply event.reply)) (is_calm any_race events) (any_calm events)

any_reckoned : (next : Next) (n : ℕ) (opened visited : List (List Event)) → AreReckonedWith next n any_race opened visited
any_reckoned next n opened visited =
    record {
      past = λ before there. any_calm before;
      calls = λ before rank call there below asked. refl;
      agreed = λ partial before rank call pick second there halting. absurd (cc);
    }

pub steady_missed : (next : Next) (output : Output) (n : ℕ) → Lawful next → FuturesAreSame next output n → EveryStepIsMade next n → HaltsDecideOutcomes next output n
    → SteadyCallsMissNothing next output n
steady_missed next output n lawful futures steps decide root more opened visited closed whole =
    nothing_missed next output n lawful futures steps decide any_race root more opened visited closed (any_reckoned next n opened visited) whole

pub patient_steady_missed : (next : Next) (output : Output) (n : ℕ) → Lawful next → FuturesAreSame next output n → EveryStepIsMade next n → HaltsDecideOutcomes next output n
    → SteadyCallsMissNothingPatient next output n
patient_steady_missed next output n lawful futures steps decide most root more opened visited closed whole patient =
    patient_missed next output n lawful futures steps decide most any_race root more opened visited closed (any_reckoned next n opened visited) whole patient
