-- The search for every outcome that the runs of a program have.
use Rattle.std.specs.Prelude.{◌≡◌, ℕ, suc, List, [], ◌∷◌, ◌++◌, None, Bool, true, false, not, if◌then◌else◌, codes, map}
use Rattle.std.specs.List.{AllZip, list_any}
use Rattle.clap.specs.Words.{Text}
use Rattle.c_program.specs.Tree.{Program}
use Rattle.c_program.specs.Program.{next_of, output_of}
use Rattle.explanation_text.specs.OrderTexts.{turns_text}
use Rattle.explanation_text.specs.WaitsTexts.{waiting_text}
use Rattle.explore.specs.declared.found.Explored.{Explored}
use Rattle.explore.specs.declared.found.FoundOutcome.{FoundOutcome}
use Rattle.explore.specs.Explored.{IsExplored, events_of_turns}
use Rattle.explore_text.specs.ExploreTexts.{explore_text}
use Rattle.group_plan.specs.OrderText.{IsOrderText}
use Rattle.group_plan.specs.Plans.{number_of_ranks}
use Rattle.mpi_call.specs.declared.call.Halt.TheVariants.{Stuck}
use Rattle.mpi_call.specs.Lists.{IsIn}
use Rattle.picked_runs.specs.declared.turn.Turn.{Turn}
use Rattle.picked_runs.specs.Turns.{IsRunByTurns}
use Rattle.run_model.specs.declared.ending.Ending.{Ending}
use Rattle.run_model.specs.declared.ending.Ending.TheVariants.{Finished, Halted as WasHalted}
use Rattle.run_model.specs.declared.event.Event.{Event}
use Rattle.run_model.specs.Endings.{ending_of}
use Rattle.run_model.specs.Views.{Next}
use Rattle.run_states.specs.Outcomes.{IsWholeRun}
use Rattle.wait_graph.specs.Graph.{graph_of}
use Rattle.wiz_base.specs.Decimals.{decimal_text}
use Rattle.wiz_runs.specs.Runs.{run_inputs, run_requirements, run_texts}
use Rattle.wiz_task.specs.Names.{Plan}
use Rattle.wiz_task.specs.Recordings.{ArePrepared, RunTexts}
use Rattle.wiz_task.specs.Tasks.{Task}
use Rattle.wiz_tool.specs.declared.status.Status.{Status}
use Rattle.wiz_tool.specs.declared.status.Status.TheVariants.{Done, Halted, Incomplete}
use Rattle.wiz_tool.specs.Files.{NamedFile}
use Rattle.wiz_tool.specs.Outcomes.{TaskOutcome}
use Rattle.wiz_words.specs.declared.command.RunWords.{RunWords}

-- ---- files

-- PREFIX.I.order
abbrev pub numbered_name : Text → ℕ → Text
numbered_name prefix number = prefix ++ (codes "." ++ (decimal_text number ++ codes ".order"))

-- the order file of an outcome, by its number
abbrev pub numbered_file : Text → ℕ → List Turn → NamedFile
numbered_file prefix number turns = record { name = numbered_name prefix number; bytes = turns_text turns }

-- one for each of these turns, numbered from here on
abbrev pub numbered_files : Text → ℕ → List (List Turn) → List NamedFile
numbered_files prefix number [] = []
numbered_files prefix number (turns ∷ more) = numbered_file prefix number turns ∷ numbered_files prefix (suc number) more

-- the turns of each outcome
abbrev pub found_turns : List FoundOutcome → List (List Turn)
found_turns listed = map (λ (found : FoundOutcome). found.turns) listed

-- PREFIX.left
abbrev pub left_prefix : Text → Text
left_prefix prefix = prefix ++ codes ".left"

-- PREFIX.I.order for each outcome, then PREFIX.left.I.order for each state that is left
abbrev pub search_files : Text → Explored → List NamedFile
search_files prefix explored =
    numbered_files prefix 0 (found_turns explored.found) ++ numbered_files (left_prefix prefix) 0 explored.left

-- ---- what is told

-- whether a run was halted
abbrev pub is_halted : Ending → Bool
is_halted Finished = false
is_halted (WasHalted halt) = true

-- no state is left, and no rank was held back
abbrev pub is_exploration_complete : List (List Turn) → Bool → Bool
is_exploration_complete [] polled = not polled
is_exploration_complete (turns ∷ left) polled = false

-- some outcome was halted; else everything was looked at, without a bound on vain looks; else not
abbrev pub of_search : Explored → Status
of_search explored =
    if list_any (λ (found : FoundOutcome). is_halted found.outcome.ending) explored.found then Halted
    else if is_exploration_complete explored.left explored.polled then Done else Incomplete

-- the order files are written, and the text of the search is put out. No run and no replay is kept
abbrev pub search_outcome : Text → ℕ → ℕ → Explored → List Text → TaskOutcome
search_outcome prefix most polls explored waits = record {
  files = search_files prefix explored;
  text = explore_text most polls explored waits;
  status = of_search explored;
  run = None;
  replays = [];
}

-- the ranks that wait in a run with this ending, where that is a deadlock
abbrev pub waits_of : ℕ → List Event → Ending → Text
waits_of n run (WasHalted Stuck) = waiting_text n run (graph_of n run)
waits_of n run ending = []

-- of an outcome: the ranks that wait in the run that the recording by its turns makes
pub record IsWaiting (next : Next) (n : ℕ) (found : FoundOutcome) (text : Text) : Type 0 where
  pub run : List Event
  pub taken : IsRunByTurns next n found.turns run
  pub text_is : text ≡ waits_of n run found.outcome.ending

-- the order file of turns is read back as them
abbrev pub IsReadBack : ℕ → List Turn → Type 0
IsReadBack n turns = IsOrderText n (turns_text turns) turns

-- ---- what is done

-- the runs of what the texts hold are searched, those that begin with what the turns make, and the outcome tells what was found. With 0 no
-- whole run of these in which nothing is late is halted
pub record Explores (prefix : Text) (most polls : ℕ) (texts : RunTexts) (outcome : TaskOutcome) : Type 0 where
  pub program : Program
  pub groups : Plan
  pub turns : List Turn
  pub explored : Explored
  pub waits : List Text
  pub prepared : ArePrepared texts program groups turns
  pub is_explored : IsExplored (next_of program) (output_of program) (number_of_ranks groups) polls turns explored
  pub are_waiting : AllZip (IsWaiting (next_of program) (number_of_ranks groups)) explored.found waits
  pub found_back : (found : FoundOutcome) → IsIn found explored.found → IsReadBack (number_of_ranks groups) found.turns
  pub left_back : (left : List Turn) → IsIn left explored.left → IsReadBack (number_of_ranks groups) left
  pub is_outcome : outcome ≡ search_outcome prefix most polls explored waits
  pub finishes : outcome.status ≡ Done → (more : List Event)
      → IsWholeRun (next_of program) (number_of_ranks groups) (events_of_turns (next_of program) (number_of_ranks groups) turns ++ more)
      → ending_of (events_of_turns (next_of program) (number_of_ranks groups) turns ++ more) ≡ Finished

-- ---- the task

-- the task of a search
abbrev pub search_task : RunWords Text → Text → ℕ → ℕ → Task
search_task run prefix most polls =
    record { inputs = run_inputs run; requirements = run_requirements; Does = λ texts. Explores prefix most polls (run_texts texts) }
