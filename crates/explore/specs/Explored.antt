-- What a search for every outcome answers. It says nothing of how was searched.
use Rattle.std.specs.Prelude.{◌≡◌, ◌<◌, ◌⊎◌, ℕ, List, [], ◌∷◌, ◌++◌, All, false}
use Rattle.mpi_call.specs.Lists.{IsIn}
use Rattle.run_model.specs.declared.event.Event.{Event}
use Rattle.run_model.specs.Lists.{Along}
use Rattle.run_model.specs.Run.{IsPromptRun}
use Rattle.run_model.specs.Serial.{first_stage}
use Rattle.run_model.specs.Views.{Next}
use Rattle.picked_runs.specs.declared.turn.Turn.{Turn}
use Rattle.picked_runs.specs.Numbering.{AreNumberedInOrder}
use Rattle.picked_runs.specs.Turns.{IsPickOf, IsRunByTurns, take_turns}
use Rattle.srr_entry.specs.Outputs.{Output}
use Rattle.run_states.specs.Outcomes.{IsPatientEvent, IsProbeKept, IsWholeRun, RunOutcome, outcome_of_run}
use Rattle.explore.specs.declared.found.Explored.{Explored}
use Rattle.explore.specs.declared.found.FoundOutcome.{FoundOutcome}

-- the events that these turns make
abbrev pub events_of_turns : Next → ℕ → List Turn → List Event
events_of_turns next n turns = (take_turns next n first_stage turns).events

-- turns of n ranks, which can be written down and read back
pub record AreTurnsOf (n : ℕ) (turns : List Turn) : Type 0 where
  pub ranks : All (λ turn. turn.rank < n) turns
  pub picks : All (λ turn. IsPickOf n turn.pick) turns

-- what is listed is what the run comes to that the recording by its turns makes. Nothing in it is late; it begins with the root, and keeps its
-- probes from there on
pub record IsFoundOutcome (next : Next) (output : Output) (n : ℕ) (root : List Event) (found : FoundOutcome) : Type 0 where
  pub more : List Event
  pub turns : AreTurnsOf n found.turns
  pub taken : IsRunByTurns next n found.turns (root ++ more)
  pub run : IsPromptRun next n (root ++ more)
  pub numbered : AreNumberedInOrder n (root ++ more)
  pub probes : Along IsProbeKept root more
  pub outcome_is : found.outcome ≡ outcome_of_run output n (root ++ more)

-- this outcome is listed
abbrev pub IsListed : List FoundOutcome → RunOutcome → Type 0
IsListed listed outcome = (found : FoundOutcome) × IsIn found listed × (found.outcome ≡ outcome)

-- no two have the same outcome
abbrev pub OutcomesDiffer : List FoundOutcome → Type 0
OutcomesDiffer [] = Unit {0}
OutcomesDiffer (found ∷ listed) = (IsListed listed found.outcome → ⊥) × OutcomesDiffer listed

-- turns that make a run which goes on from the root, and keeps its probes from there on
pub record IsBehind (next : Next) (n : ℕ) (root : List Event) (turns : List Turn) : Type 0 where
  pub more : List Event
  pub made : events_of_turns next n turns ≡ root ++ more
  pub probes : Along IsProbeKept root more

-- a whole run in which nothing is late comes to this that begins with what the turns of one of these states make
pub record IsReachableOutcome (next : Next) (output : Output) (n : ℕ) (states : List (List Turn)) (outcome : RunOutcome) : Type 0 where
  pub turns : List Turn
  pub there : IsIn turns states
  pub more : List Event
  pub whole : IsWholeRun next n (events_of_turns next n turns ++ more)
  pub outcome_is : outcome ≡ outcome_of_run output n (events_of_turns next n turns ++ more)

-- and no rank of it looks in vain too often from there on
pub record IsLeftPatient (next : Next) (output : Output) (n polls : ℕ) (states : List (List Turn)) (outcome : RunOutcome) : Type 0 where
  pub left : IsReachableOutcome next output n states outcome
  pub patient : Along (IsPatientEvent polls) (events_of_turns next n left.turns) left.more

-- what is answered of a program on n ranks, of the runs that begin with what the turns `under` make; without turns, of all runs. In each of these
-- nothing is late
-- sound: each listed outcome is that of a run, which the recording by its turns makes
-- apart: none is listed twice
-- left: each state that is left is kept as turns of the ranks
-- patient: where no state is left, the outcome of each whole run in which no rank looks in vain more than `polls` times in a row is listed
-- complete: where besides no rank was held back for that, the outcome of each whole run is
-- behind: each goes on from the root, so that what is found under it counts here
-- divided: whatever is left, the outcome of each such whole run is listed, or is met where what is left is searched
pub record IsExplored (next : Next) (output : Output) (n polls : ℕ) (under : List Turn) (explored : Explored) : Type 0 where
  pub sound : (found : FoundOutcome) → IsIn found explored.found → IsFoundOutcome next output n (events_of_turns next n under) found
  pub apart : OutcomesDiffer explored.found
  pub left : (turns : List Turn) → IsIn turns explored.left → AreTurnsOf n turns
  pub patient : explored.left ≡ [] → (more : List Event) → IsWholeRun next n (events_of_turns next n under ++ more)
      → Along (IsPatientEvent polls) (events_of_turns next n under) more → IsListed explored.found (outcome_of_run output n (events_of_turns next n under ++ more))
  pub complete : explored.left ≡ [] → explored.polled ≡ false → (more : List Event) → IsWholeRun next n (events_of_turns next n under ++ more)
      → IsListed explored.found (outcome_of_run output n (events_of_turns next n under ++ more))
  pub behind : (turns : List Turn) → IsIn turns explored.left → IsBehind next n (events_of_turns next n under) turns
  pub divided_patient : (more : List Event) → IsWholeRun next n (events_of_turns next n under ++ more) → Along (IsPatientEvent polls) (events_of_turns next n under) more
      → IsListed explored.found (outcome_of_run output n (events_of_turns next n under ++ more)) ⊎ IsLeftPatient next output n polls explored.left (outcome_of_run output n (events_of_turns next n under ++ more))
  pub divided : explored.polled ≡ false → (more : List Event) → IsWholeRun next n (events_of_turns next n under ++ more)
      → IsListed explored.found (outcome_of_run output n (events_of_turns next n under ++ more)) ⊎ IsReachableOutcome next output n explored.left (outcome_of_run output n (events_of_turns next n under ++ more))
