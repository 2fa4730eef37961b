-- From all states that were looked at with quiet calls first a search is whole.
use Rattle.std.proofs.Common.{◌≡◌, ◌∙◌, ◌++◌, ℕ, List, [], None, false, inl, inr, sym, subst}
use Rattle.mpi_call.specs.Lists.{IsIn}
use Rattle.run_model.specs.declared.event.Event.{Event}
use Rattle.run_model.specs.Due.{halted}
use Rattle.run_model.specs.Lists.{Along}
use Rattle.run_model.specs.Views.{Next}
use Rattle.run_model.proofs.Views.{option_cases}
use Rattle.picked_runs.specs.declared.turn.Turn.{Turn}
use Rattle.srr_entry.specs.Outputs.{Output}
use Rattle.run_states.specs.Outcomes.{IsPatientEvent, IsWholeRun, outcome_of_run}
use Rattle.run_states.specs.StateLaws.{HaltsDecideOutcomes}
use Rattle.quiet_calls.specs.Quiet.{Races}
use Rattle.explore.specs.declared.found.Explored.{Explored}
use Rattle.explore.specs.declared.found.FoundOutcome.{FoundOutcome}
use Rattle.explore.specs.declared.met.Met.{Met}
use Rattle.explore.specs.declared.search.QuietSearch.TheVariants.{Whole}
use Rattle.explore.specs.Explored.{OutcomesDiffer, IsExplored, IsFoundOutcome, IsListed, events_of_turns}
use Rattle.explore.specs.QuietFirst.{AllRunsAreListedQuietly, HasLookedAtQuietly, IsSearchedQuietly, PatientRunsAreListedQuietly, has_mismatch}
use Rattle.explore.specs.Searching.{StaysMet, HasBegun, IsUnderWay, question_of, seen_by}
use Rattle.explore.proofs.Looking.{root_listed}
use Rattle.explore.proofs.Trying.{met_longer}

-- what such a search has met in the end
pub record HasEndedQuietly (next : Next) (output : Output) (n polls : ℕ) (races : Races) (under : List Turn) (first met : Met) : Type 0 where
  pub halts : HaltsDecideOutcomes next output n
  pub patient : PatientRunsAreListedQuietly next output n
  pub all : AllRunsAreListedQuietly next output n
  pub begun : HasBegun next output n under first
  pub way : IsUnderWay next output n (events_of_turns next n under) met
  pub grows : StaysMet first.states met.states first.found met.found first.polled met.polled
  pub looked : (turns : List Turn) → IsIn turns met.states → HasLookedAtQuietly (question_of next output n polls) races met turns
  pub agreed : races.partial ≡ false → has_mismatch met.found ≡ false

searched : (next : Next) (output : Output) (n polls : ℕ) (races : Races) (under : List Turn) (first met : Met) → HasEndedQuietly next output n polls races under first met
    → halted (events_of_turns next n under) ≡ None → IsSearchedQuietly (question_of next output n polls) races (events_of_turns next n under) (seen_by met)
searched next output n polls races under first met e free =
    record {
      first = met_longer next n first.states met.states (events_of_turns next n under) e.grows.states_stay (e.begun.free free);
      are_states = e.way.are_states;
      looked = e.looked;
      agreed = e.agreed;
    }

pub explored_quietly : (next : Next) (output : Output) (n polls : ℕ) (races : Races) (under : List Turn) (first met : Met) (explored : Explored)
    → HasEndedQuietly next output n polls races under first met → explored.found ≡ met.found → explored.left ≡ [] → explored.polled ≡ met.polled
    → IsExplored next output n polls under explored
explored_quietly next output n polls races under first met explored e found left polled =
    let root : List Event = events_of_turns next n under in
    let A : List FoundOutcome → Type 0 = λ l. OutcomesDiffer l in
    let S : List FoundOutcome → Type 0 = λ l. (one : FoundOutcome) → IsIn one l → IsFoundOutcome next output n root one in
    let none : (turns : List Turn) → IsIn turns explored.left → ⊥ = λ turns there. (let I : List (List Turn) → Type 0 = λ l. IsIn turns l in subst I left there) in
    let patient : (more : List Event) → IsWholeRun next n (root ++ more) → Along (IsPatientEvent polls) root more → IsListed explored.found (outcome_of_run output n (root ++ more)) =
    λ more whole steady. (
    let L : List FoundOutcome → Type 0 = λ l. IsListed l (outcome_of_run output n (root ++ more)) in
    subst L (sym found) (elim (option_cases (halted root)) [
      | inl some ↦ root_listed next output n under first met some.0 more e.halts e.begun e.grows some.1 whole
      | inr free ↦ e.patient polls races root more met.states met.found met.polled (searched next output n polls races under first met e free) whole steady
    ])) in
    let all : explored.polled ≡ false → (more : List Event) → IsWholeRun next n (root ++ more) → IsListed explored.found (outcome_of_run output n (root ++ more)) =
    λ never more whole. (
    let L : List FoundOutcome → Type 0 = λ l. IsListed l (outcome_of_run output n (root ++ more)) in
    subst L (sym found) (elim (option_cases (halted root)) [
      | inl some ↦ root_listed next output n under first met some.0 more e.halts e.begun e.grows some.1 whole
      | inr free ↦ e.all polls races root more met.states met.found met.polled (searched next output n polls races under first met e free) (sym polled ∙ never) whole
    ])) in
    record {
      sound = subst S (sym found) e.way.found;
      apart = subst A (sym found) e.way.apart;
      left = λ turns there. absurd (none turns there);
      patient = λ empty. patient;
      complete = λ empty. all;
      behind = λ turns there. absurd (none turns there);
      divided_patient = λ more whole steady. inl (patient more whole steady);
      divided = λ never more whole. inl (all never more whole);
    }

pub whole_is : (one other : Explored) → Whole one ≡ Whole other → one ≡ other
whole_is one other h = cc
