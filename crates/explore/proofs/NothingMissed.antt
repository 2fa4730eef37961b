-- Where every state was looked at, what each whole run comes to is listed.
use Rattle.std.proofs.Common.{◌≡◌, ◌∙◌, ◌++◌, ◌∷◌, Bool, ℕ, List, [], false, true, inl, inr, refl, sym, subst}
use Rattle.mpi_call.specs.Lists.{IsIn}
use Rattle.run_model.specs.declared.event.Event.{Event}
use Rattle.run_model.specs.Views.{Next}
use Rattle.picked_runs.specs.declared.turn.Turn.{Turn}
use Rattle.srr_entry.specs.Outputs.{Output}
use Rattle.run_states.specs.Moves.{AreClosed}
use Rattle.run_states.specs.Outcomes.{IsProbeKept, RunOutcome, outcome_of_run}
use Rattle.run_states.specs.StateLaws.{EveryOutcomeIsMet, EveryPatientOutcomeIsMet, IsOutcomeMet, IsPatientStep}
use Rattle.explore.specs.declared.found.FoundOutcome.{FoundOutcome}
use Rattle.explore.specs.Explored.{IsListed, events_of_turns}
use Rattle.explore.specs.Searching.{IsLookedAt, IsSearched, histories, question_of, seen_of}
use Rattle.explore.specs.SearchLaws.{AllRunsAreListed, PatientRunsAreListed}

-- a history among those of some states is that of one of them
pub history_in : (next : Next) (n : ℕ) (states : List (List Turn)) (before : List Event) → IsIn before (histories next n states)
    → (turns : List Turn) × IsIn turns states × (events_of_turns next n turns ≡ before)
history_in next n [] before there = absurd there
history_in next n (turns ∷ states) before there =
    elim there [
      | inl same ↦ (turns, inl refl, same)
      | inr later ↦ (let rest = history_in next n states before later in (rest.0, inr rest.1, rest.2))
    ]

looked_in : (next : Next) (output : Output) (n polls : ℕ) (root : List Event) (states : List (List Turn)) (listed : List FoundOutcome) (polled : Bool)
    → IsSearched (question_of next output n polls) root (seen_of states listed polled) → (before : List Event) → IsIn before (histories next n states)
    → IsLookedAt (question_of next output n polls) (seen_of states listed polled) before
looked_in next output n polls root states listed polled searched before there =
    let state = history_in next n states before there in
    let F : List Event → Type 0 = λ l. IsLookedAt (question_of next output n polls) (seen_of states listed polled) l in
    subst F state.2 (searched.looked state.0 state.1)

pub listed_as : (listed : List FoundOutcome) (one other : RunOutcome) → one ≡ other → IsListed listed one → IsListed listed other
listed_as listed one other same there = (let F : RunOutcome → Type 0 = λ o. IsListed listed o in subst F same there)

-- what is met among the histories is listed
met_listed : (next : Next) (output : Output) (n polls : ℕ) (root : List Event) (states : List (List Turn)) (listed : List FoundOutcome) (polled : Bool)
    → IsSearched (question_of next output n polls) root (seen_of states listed polled) → (outcome : RunOutcome) → IsOutcomeMet next output n (histories next n states) outcome
    → IsListed listed outcome
met_listed next output n polls root states listed polled searched outcome met =
    let looked = looked_in next output n polls root states listed polled searched met.0 met.1 in
    elim met.2 [
      | inl ends ↦ listed_as listed (outcome_of_run output n met.0) outcome (sym ends.outcome_is) (looked.ends ends.ended)
      | inr halts ↦ listed_as listed _ outcome (sym halts.outcome_is) (looked.halts halts.rank halts.call halts.pick halts.halt halts.halting)
    ]

pub patient_listed : (next : Next) (output : Output) (n : ℕ) → EveryPatientOutcomeIsMet next output n → PatientRunsAreListed next output n
patient_listed next output n law polls root more states listed polled searched free whole patient =
    let closed : AreClosed next n root (IsPatientStep polls) (histories next n states) = record {
      first = searched.first;
      more = λ before rank call pick there move wanted.
          elim ((looked_in next output n polls root states listed polled searched before there).moves rank call pick move wanted.0) [
            | inl met ↦ met
            | inr vain ↦ absurd (vain.1 wanted.1)
          ];
    } in
    met_listed next output n polls root states listed polled searched (outcome_of_run output n (root ++ more))
    (law polls root more (histories next n states) closed whole patient free)

pub all_listed : (next : Next) (output : Output) (n : ℕ) → EveryOutcomeIsMet next output n → AllRunsAreListed next output n
all_listed next output n law polls root more states listed polled searched never free whole =
    let closed : AreClosed next n root IsProbeKept (histories next n states) = record {
      first = searched.first;
      more = λ before rank call pick there move wanted.
          elim ((looked_in next output n polls root states listed polled searched before there).moves rank call pick move wanted) [
            | inl met ↦ met
            | inr vain ↦ (let no : true ≡ false = sym vain.0 ∙ never in absurd (cc))
          ];
    } in
    met_listed next output n polls root states listed polled searched (outcome_of_run output n (root ++ more))
    (law root more (histories next n states) closed whole free)
