-- The search of what is run.
use Rattle.std.specs.Prelude.{◌<◌, ℕ, List, All}
use Rattle.std.specs.List.{AllZip}
use Rattle.c_program.specs.View.{pure_program}
use Rattle.c_program.specs.Program.{next_of, output_of}
use Rattle.explore.specs.declared.found.FoundOutcome.{FoundOutcome}
use Rattle.explore.specs.Explored.{IsExplored}
use Rattle.group_plan.specs.Plans.{number_of_ranks}
use Rattle.picked_runs.specs.declared.turn.Turn.{Turn}
use Rattle.picked_runs.specs.Turns.{IsRunByTurns}
use Rattle.run_model.specs.declared.event.Event.{Event}
use Rattle.wiz_searches.specs.declared.exploring.make.Searched.{Searched}
use Rattle.wiz_task.specs.declared.ready.Ready.{Ready}
use Rattle.wiz_searches.specs.Explorations.{IsWaiting}

-- what a search of it found, and for each outcome the text of the ranks that wait
pub record IsSearchOf (ready : Ready) (polls : ℕ) (searched : Searched) : Type 0 where
  pub is_explored : IsExplored (next_of (pure_program ready.program)) (output_of (pure_program ready.program)) (number_of_ranks ready.plan) polls ready.turns searched.explored
  pub are_waiting : AllZip (IsWaiting (next_of (pure_program ready.program)) (number_of_ranks ready.plan)) searched.explored.found searched.waits

-- one of its outcomes: that of the run which the recording by its turns makes
pub record IsFoundOf (ready : Ready) (found : FoundOutcome) : Type 0 where
  pub run : List Event
  pub taken : IsRunByTurns (next_of (pure_program ready.program)) (number_of_ranks ready.plan) found.turns run
  pub ranks : All (λ (turn : Turn). turn.rank < number_of_ranks ready.plan) found.turns
