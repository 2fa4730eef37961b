-- Where every state was looked at with quiet calls first, nothing is missed.
use Rattle.std.proofs.Common.{◌≡◌, ◌∙◌, ◌++◌, ◌∷◌, ◌⊎◌, ℕ, List, [], Bool, true, false, inl, inr, refl, ap, sym, subst}
use Rattle.std.proofs.lemmas.Bool.{or_parts}
use Rattle.mpi_call.specs.declared.call.Halt.TheVariants.{Mismatched}
use Rattle.mpi_call.specs.Lists.{IsIn}
use Rattle.run_model.specs.declared.event.Event.{Event}
use Rattle.run_model.specs.Lists.{Along}
use Rattle.run_model.specs.Serial.{call_after}
use Rattle.run_model.specs.Views.{Next}
use Rattle.run_model.proofs.Along.{Along-front}
use Rattle.picked_runs.specs.declared.turn.Turn.{Turn}
use Rattle.srr_entry.specs.Outputs.{Output}
use Rattle.run_states.specs.Outcomes.{IsProbeKept, RunOutcome, outcome_of_run}
use Rattle.run_states.specs.StateLaws.{IsOutcomeMet, IsPatientStep}
use Rattle.quiet_calls.specs.Closure.{AreClosedQuietly, AreMovesMet, AreReckonedWith, IsOnItsWay, IsQuietCallMet, QuietCallsMissNothing, QuietCallsMissNothingPatient, met_histories}
use Rattle.quiet_calls.specs.Quiet.{Races, is_calm}
use Rattle.explore.specs.declared.found.FoundOutcome.{FoundOutcome}
use Rattle.explore.specs.Explored.{IsListed, events_of_turns}
use Rattle.explore.specs.QuietFirst.{AllRunsAreListedQuietly, IsLookedAtQuietly, IsSearchedQuietly, PatientRunsAreListedQuietly, has_mismatch, is_mismatched_ending}
use Rattle.explore.specs.Searching.{IsLookedAt, histories, question_of, seen_of}
use Rattle.explore.proofs.Noting.{along_join}
use Rattle.explore.proofs.NothingMissed.{history_in, listed_as}

-- 1. the histories of which all moves were followed

record AreOpened (next : Next) (output : Output) (n polls : ℕ) (races : Races) (states : List (List Turn)) (listed : List FoundOutcome) (polled : Bool) (some : List (List Turn)) : Type 0 where
  opened : List (List Event)
  looked : (one : List Event) → IsIn one opened → IsLookedAt (question_of next output n polls) (seen_of states listed polled) one
  others : (turns : List Turn) → IsIn turns some → IsIn (events_of_turns next n turns) opened ⊎ IsQuietCallMet next n races (histories next n states) (events_of_turns next n turns)

open_all : (next : Next) (output : Output) (n polls : ℕ) (races : Races) (states : List (List Turn)) (listed : List FoundOutcome) (polled : Bool) (some : List (List Turn))
    → ((turns : List Turn) → IsIn turns some → IsLookedAtQuietly (question_of next output n polls) races (seen_of states listed polled) (events_of_turns next n turns))
    → AreOpened next output n polls races states listed polled some
open_all next output n polls races states listed polled [] all =
    record { opened = []; looked = λ one there. absurd there; others = λ turns there. absurd there }
open_all next output n polls races states listed polled (first ∷ some) all =
    let later : AreOpened next output n polls races states listed polled some =
    open_all next output n polls races states listed polled some (λ turns there. all turns (inr there)) in
    let here : List Event = events_of_turns next n first in
    let L : List Event → Type 0 = λ l. IsLookedAt (question_of next output n polls) (seen_of states listed polled) l in
    let Q : List Turn → Type 0 = λ l. IsQuietCallMet next n races (histories next n states) (events_of_turns next n l) in
    elim (all first (inl refl)).looked [
      | inl wide ↦
          record {
            opened = here ∷ later.opened;
            looked = λ one there. elim there [
              | inl same ↦ subst L same wide
              | inr more ↦ later.looked one more
            ];
            others = λ turns there. elim there [
              | inl same ↦ inl (inl (ap (events_of_turns next n) same))
              | inr more ↦ elim (later.others turns more) [
                | inl wide ↦ inl (inr wide)
                | inr quiet ↦ inr quiet
              ]
            ];
          }
      | inr quiet ↦
          record {
            opened = later.opened;
            looked = later.looked;
            others = λ turns there. elim there [
              | inl same ↦ inr (subst Q same quiet)
              | inr more ↦ later.others turns more
            ];
          }
    ]

-- 2. the histories are closed, and reckoned with

none_in : (listed : List FoundOutcome) (found : FoundOutcome) → has_mismatch listed ≡ false → IsIn found listed → is_mismatched_ending found.outcome.ending ≡ false
none_in [] found none there = absurd there
none_in (first ∷ listed) found none there =
    let parts = or_parts (is_mismatched_ending first.outcome.ending) (has_mismatch listed) none in
    let F : FoundOutcome → Type 0 = λ f. is_mismatched_ending f.outcome.ending ≡ false in
    elim there [
      | inl same ↦ subst F same parts.0
      | inr later ↦ none_in listed found parts.1 later
    ]

ways : (next : Next) (output : Output) (n polls : ℕ) (races : Races) (root : List Event) (states : List (List Turn)) (listed : List FoundOutcome) (polled : Bool)
    → IsSearchedQuietly (question_of next output n polls) races root (seen_of states listed polled) → Along IsProbeKept [] root
    → (before : List Event) → IsIn before (histories next n states) → IsOnItsWay next n before
ways next output n polls races root states listed polled s probes before there =
    let found = history_in next n states before there in
    let state = s.are_states found.0 found.1 in
    let K : List Event → Type 0 = λ l. Along IsProbeKept [] l in
    let W : List Event → Type 0 = λ l. IsOnItsWay next n l in
    subst W found.2
    (record {
      run = state.under.run;
      numbered = state.under.numbered;
      probes = subst K (sym state.under.made) (along_join IsProbeKept [] root state.under.more probes state.under.probes);
      free = state.free;
      below = (s.looked found.0 found.1).reckoned.below;
    })

closed : (next : Next) (output : Output) (n polls : ℕ) (races : Races) (root : List Event) (states : List (List Turn)) (listed : List FoundOutcome) (polled : Bool)
    (IsWanted : List Event → Event → Type 0) → (s : IsSearchedQuietly (question_of next output n polls) races root (seen_of states listed polled)) → Along IsProbeKept [] root
    → (o : AreOpened next output n polls races states listed polled states)
    → ((before : List Event) → IsIn before o.opened → AreMovesMet next n IsWanted (histories next n states) before)
    → AreClosedQuietly next n races root IsWanted (met_histories o.opened (histories next n states))
closed next output n polls races root states listed polled IsWanted s probes o moves =
    record {
      first = s.first;
      runs = ways next output n polls races root states listed polled s probes;
      more = λ before there. (
          let found = history_in next n states before there in
          let O : List Event → Type 0 = λ l. IsIn l o.opened in
          let Q : List Event → Type 0 = λ l. IsQuietCallMet next n races (histories next n states) l in
          elim (o.others found.0 found.1) [
            | inl wide ↦ (let here : IsIn before o.opened = subst O found.2 wide in inl (here, moves before here))
            | inr quiet ↦ inr (subst Q found.2 quiet)
          ]);
    }

reckoned : (next : Next) (output : Output) (n polls : ℕ) (races : Races) (root : List Event) (states : List (List Turn)) (listed : List FoundOutcome) (polled : Bool)
    → IsSearchedQuietly (question_of next output n polls) races root (seen_of states listed polled) → (o : AreOpened next output n polls races states listed polled states)
    → AreReckonedWith next n races o.opened (histories next n states)
reckoned next output n polls races root states listed polled s o =
    record {
      past = λ before there. (
          let found = history_in next n states before there in
          let C : List Event → Type 0 = λ l. is_calm races l ≡ true in
          subst C found.2 (s.looked found.0 found.1).reckoned.past);
      calls = λ before rank call there below asked. (
          let found = history_in next n states before there in
          (s.looked found.0 found.1).reckoned.calls rank call below (ap (λ l. call_after next n l rank) found.2 ∙ asked));
      agreed = λ whole before rank call pick second there halting. (
          let listed_is = (o.looked before there).halts rank call pick (Mismatched second) halting in
          let ended : is_mismatched_ending (listed_is.0).outcome.ending ≡ true = ap (λ (x : RunOutcome). is_mismatched_ending x.ending) listed_is.2 in
          let no : true ≡ false = sym ended ∙ none_in listed listed_is.0 (s.agreed whole) listed_is.1 in
          cc);
    }

-- 3. so what each run comes to is listed

opened_listed : (next : Next) (output : Output) (n polls : ℕ) (races : Races) (states : List (List Turn)) (listed : List FoundOutcome) (polled : Bool)
    → (o : AreOpened next output n polls races states listed polled states) → (outcome : RunOutcome) → IsOutcomeMet next output n o.opened outcome → IsListed listed outcome
opened_listed next output n polls races states listed polled o outcome met =
    let looked = o.looked met.0 met.1 in
    elim met.2 [
      | inl ends ↦ listed_as listed (outcome_of_run output n met.0) outcome (sym ends.outcome_is) (looked.ends ends.ended)
      | inr halts ↦ listed_as listed _ outcome (sym halts.outcome_is) (looked.halts halts.rank halts.call halts.pick halts.halt halts.halting)
    ]

pub patient_listed_quietly : (next : Next) (output : Output) (n : ℕ) → QuietCallsMissNothingPatient next output n → PatientRunsAreListedQuietly next output n
patient_listed_quietly next output n law polls races root more states listed polled s whole patient =
    let o : AreOpened next output n polls races states listed polled states = open_all next output n polls races states listed polled states s.looked in
    let moves : (before : List Event) → IsIn before o.opened → AreMovesMet next n (IsPatientStep polls) (histories next n states) before =
    λ before there rank call pick move wanted. elim ((o.looked before there).moves rank call pick move wanted.0) [
      | inl met ↦ met
      | inr vain ↦ absurd (vain.1 wanted.1)
    ] in
    opened_listed next output n polls races states listed polled o (outcome_of_run output n (root ++ more))
    (law polls races root more o.opened (histories next n states)
    (closed next output n polls races root states listed polled (IsPatientStep polls) s (Along-front IsProbeKept [] root more whole.probes) o moves)
    (reckoned next output n polls races root states listed polled s o) whole patient)

pub all_listed_quietly : (next : Next) (output : Output) (n : ℕ) → QuietCallsMissNothing next output n → AllRunsAreListedQuietly next output n
all_listed_quietly next output n law polls races root more states listed polled s never whole =
    let o : AreOpened next output n polls races states listed polled states = open_all next output n polls races states listed polled states s.looked in
    let moves : (before : List Event) → IsIn before o.opened → AreMovesMet next n IsProbeKept (histories next n states) before =
    λ before there rank call pick move wanted. elim ((o.looked before there).moves rank call pick move wanted) [
      | inl met ↦ met
      | inr vain ↦ (let no : true ≡ false = sym vain.0 ∙ never in absurd (cc))
    ] in
    opened_listed next output n polls races states listed polled o (outcome_of_run output n (root ++ more))
    (law races root more o.opened (histories next n states)
    (closed next output n polls races root states listed polled IsProbeKept s (Along-front IsProbeKept [] root more whole.probes) o moves)
    (reckoned next output n polls races root states listed polled s o) whole)
