-- What is told of a run by its ending and its outputs is what it comes to.
use Rattle.std.proofs.Common.{◌≡◌, ◌<◌, ◌+◌, ◌∙◌, ◌∷◌, ℕ, zero, suc, List, [], Some, true, false, arith, inl, inr, map, nat_lt, refl, ap, sym, subst}
use Rattle.std.specs.List.{slice_index_or}
use Rattle.std.proofs.lemmas.Bool.{and_from, and_parts, cases_lt, eq-eqb, lt-ltb, ltb-true}
use Rattle.mpi_call.specs.declared.call.Halt.{Halt}
use Rattle.mpi_call.specs.declared.call.Halt.TheVariants.{Aborted, Trapped, Truncated, Mismatched, BadRequest, Limit, Stuck}
use Rattle.run_model.specs.declared.ending.Ending.{Ending}
use Rattle.run_model.specs.declared.ending.Ending.TheVariants.{Halted}
use Rattle.run_model.specs.declared.event.Event.{Event}
use Rattle.run_model.specs.Due.{halted}
use Rattle.run_model.specs.Endings.{ending_by, ending_of}
use Rattle.run_model.specs.Lists.{are_below, world}
use Rattle.run_model.specs.Run.{IsPromptRun}
use Rattle.run_model.specs.Views.{Next, view_of}
use Rattle.run_model.proofs.Halts.{names, was_stopped}
use Rattle.run_model.proofs.MemberLists.{AreMembers-world}
use Rattle.run_model.proofs.Prompt.{KeptPrompt, kept_prompt}
use Rattle.run_model.proofs.RunLaws.{Lawful}
use Rattle.run_model.proofs.Views.{option_cases}
use Rattle.picked_runs.specs.declared.turn.Turn.{Turn}
use Rattle.srr_entry.specs.Outputs.{Output, printed_of}
use Rattle.srr_record.specs.Recordings.{IsRecording, recording_with}
use Rattle.srr_record.specs.declared.recording.Recording.{Recording}
use Rattle.run_states.specs.Outcomes.{RunOutcome, reported_ending, outcome_of_run, reported_ranks}
use Rattle.explore.specs.Courses.{ComesTo, reported_outcome}

-- 1. the ranks that are told are ranks of the run

stopped_below : (next : Next) (n : ℕ) (run : List Event) (rank : ℕ) → KeptPrompt next n run → was_stopped (view_of run rank) ≡ true → rank < n
stopped_below next n run rank kept h =
    elim (cases_lt rank n) [
      | inl below ↦ below
      | inr above ↦
          let no : false ≡ true = sym (ap was_stopped (kept.below.empty rank above)) ∙ h in
          absurd (cc)
    ]

one_below : (n rank : ℕ) → rank < n → are_below n (rank ∷ []) ≡ true
one_below n rank below = and_from (nat_lt rank n) true (lt-ltb rank n below) refl

named_below : (next : Next) (n : ℕ) (run : List Event) (halt : Halt) (rank : ℕ) → KeptPrompt next n run → halted run ≡ Some halt → names rank halt ≡ true
    → are_below n (rank ∷ []) ≡ true
named_below next n run halt rank kept h named = one_below n rank (stopped_below next n run rank kept (kept.halts.each halt rank h named))

told_below : (next : Next) (n : ℕ) (run : List Event) (halt : Halt) → 0 < n → KeptPrompt next n run → halted run ≡ Some halt
    → are_below n (reported_ranks n (Halted halt)) ≡ true
told_below next n run Stuck some kept h = (AreMembers-world n 0 some).below
told_below next n run (Aborted rank code) some kept h = named_below next n run (Aborted rank code) rank kept h (eq-eqb rank rank refl)
told_below next n run (Trapped rank fault) some kept h = named_below next n run (Trapped rank fault) rank kept h (eq-eqb rank rank refl)
told_below next n run (Truncated rank start) some kept h = named_below next n run (Truncated rank start) rank kept h (eq-eqb rank rank refl)
told_below next n run (BadRequest rank start) some kept h = named_below next n run (BadRequest rank start) rank kept h (eq-eqb rank rank refl)
told_below next n run (Mismatched rank) some kept h = refl
told_below next n run Limit some kept h = refl

all_below : (next : Next) (n : ℕ) (run : List Event) → 0 < n → KeptPrompt next n run → are_below n (reported_ranks n (ending_of run)) ≡ true
all_below next n run some kept =
    elim (option_cases (halted run)) [
      | inl halt ↦ ap (λ o. are_below n (reported_ranks n (ending_by o))) halt.1 ∙ told_below next n run halt.0 some kept halt.1
      | inr none ↦ ap (λ o. are_below n (reported_ranks n (ending_by o))) none ∙ (AreMembers-world n 0 some).below
    ]

-- 2. what each printed

made_at : (f : ℕ → List ℕ) (n from k : ℕ) → k < n → slice_index_or (map f (world n from)) k [] ≡ f (from + k)
made_at f zero from k below = absurd (omega (arith, below))
made_at f (suc n) from zero below = (let e : from ≡ from + 0 = omega arith in ap f e)
made_at f (suc n) from (suc k) below =
    let e : from + 1 + k ≡ from + suc k = omega arith in
    made_at f n (from + 1) k (omega (arith, below)) ∙ ap f e

abbrev one_told : (ℕ → List ℕ) → ℕ → ℕ × List ℕ
one_told f rank = (rank, f rank)

printed_same : (f : ℕ → List ℕ) (n : ℕ) (ranks : List ℕ) → are_below n ranks ≡ true
    → map (one_told (λ rank. slice_index_or (map f (world n 0)) rank [])) ranks ≡ map (one_told f) ranks
printed_same f n [] below = refl
printed_same f n (rank ∷ ranks) below =
    let parts = and_parts (nat_lt rank n) (are_below n ranks) below in
    let none : 0 + rank ≡ rank = omega arith in
    let here : slice_index_or (map f (world n 0)) rank [] ≡ f rank = made_at f n 0 rank (ltb-true rank n parts.0) ∙ ap f none in
    let one : List ℕ → ℕ × List ℕ = λ printed. (rank, printed) in
    ap (λ p. one p ∷ map (one_told (λ r. slice_index_or (map f (world n 0)) r [])) ranks) here ∙ ap (λ l. one (f rank) ∷ l) (printed_same f n ranks parts.1)

abbrev outcome_with : Ending → List (ℕ × List ℕ) → RunOutcome
outcome_with ending printed = record { ending = reported_ending ending; printed = printed }

pub told_is : (next : Next) (output : Output) (n : ℕ) (run : List Event) → Lawful next → IsPromptRun next n run
    → reported_outcome n (ending_of run) (map (printed_of output n run) (world n 0)) ≡ outcome_of_run output n run
told_is next output n run lawful is =
    let same = printed_same (printed_of output n run) n (reported_ranks n (ending_of run)) (all_below next n run is.some (kept_prompt next n run lawful is)) in
    ap (outcome_with (ending_of run)) same

-- 3. what a recording comes to

pub comes_to : (next : Next) (output : Output) (n planned : ℕ) (text : List ℕ) (groups : List (List ℕ)) (turns : List Turn) (recording : Recording) (outcome : RunOutcome) → Lawful next
    → planned ≡ n → IsRecording next output planned (recording_with text groups turns) recording → outcome ≡ reported_outcome n recording.ending recording.outputs
    → ComesTo next output n turns outcome
comes_to next output n planned text groups turns recording outcome lawful many is said =
    let F : ℕ → Type 0 = λ m. IsRecording next output m (recording_with text groups turns) recording in
    let here : IsRecording next output n (recording_with text groups turns) recording = subst F many is in
    let run : List Event = recording.history.events in
    let told : outcome ≡ reported_outcome n (ending_of run) (map (printed_of output n run) (world n 0)) =
    said ∙ (ap (λ e. reported_outcome n e recording.outputs) here.recorded.ending ∙ ap (reported_outcome n (ending_of run)) here.recorded.outputs) in
    record {
      run = run;
      picks = recording.picks.written;
      taken = here.in_turns.taken;
      picked = here.recorded.picked;
      outcome_is = told ∙ told_is next output n run lawful here.recorded.picked.run;
    }
