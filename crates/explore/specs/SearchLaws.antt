-- What holds of searches.
use Rattle.std.specs.Prelude.{◌≡◌, ℕ, List, ◌++◌, None, Bool, false}
use Rattle.run_model.specs.declared.event.Event.{Event}
use Rattle.run_model.specs.Due.{halted}
use Rattle.run_model.specs.Lists.{Along}
use Rattle.run_model.specs.Views.{Next}
use Rattle.picked_runs.specs.declared.turn.Turn.{Turn}
use Rattle.srr_entry.specs.Outputs.{Output}
use Rattle.run_states.specs.Outcomes.{IsPatientEvent, IsWholeRun, outcome_of_run}
use Rattle.explore.specs.declared.found.FoundOutcome.{FoundOutcome}
use Rattle.explore.specs.Explored.{IsListed}
use Rattle.explore.specs.Searching.{IsSearched, question_of, seen_of}

-- where every state was looked at, what each whole run comes to in which nothing is late, and that is patient from the root on, is listed
abbrev pub PatientRunsAreListed : Next → Output → ℕ → Type 0
PatientRunsAreListed next output n =
    (polls : ℕ) (root more : List Event) (states : List (List Turn)) (listed : List FoundOutcome) (polled : Bool)
    → IsSearched (question_of next output n polls) root (seen_of states listed polled) → halted root ≡ None
    → IsWholeRun next n (root ++ more) → Along (IsPatientEvent polls) root more → IsListed listed (outcome_of_run output n (root ++ more))

-- and what each whole run in which nothing is late does, where no rank was held back
abbrev pub AllRunsAreListed : Next → Output → ℕ → Type 0
AllRunsAreListed next output n =
    (polls : ℕ) (root more : List Event) (states : List (List Turn)) (listed : List FoundOutcome) (polled : Bool)
    → IsSearched (question_of next output n polls) root (seen_of states listed polled) → polled ≡ false → halted root ≡ None
    → IsWholeRun next n (root ++ more) → IsListed listed (outcome_of_run output n (root ++ more))
