-- The command that compares the logs of two runs: each is replayed, and what the ranks of their group saw is compared.
use Rattle.std.specs.Prelude.{◌≡◌, ◌++◌, ℕ, List, [], ◌∷◌, None, if◌then◌else◌}
use Rattle.std.specs.List.{list_any}
use Rattle.c_program.specs.Tree.{Program}
use Rattle.c_program.specs.Program.{next_of, output_of}
use Rattle.c_types.specs.Checks.{IsProgramOf}
use Rattle.explanation_text.specs.DiffTexts.{diff_text}
use Rattle.replay_model.specs.declared.replayed.Replayed.{Replayed}
use Rattle.replay_model.specs.Laws.{IsRunWith}
use Rattle.run_model.specs.declared.event.Event.{Event}
use Rattle.run_model.specs.Views.{view_of}
use Rattle.srr_entry.specs.declared.log.Log.{Log}
use Rattle.srr_entry.specs.Outputs.{printed_of}
use Rattle.view_diff.specs.declared.compared.Compared.{Compared}
use Rattle.view_diff.specs.Compared.{AreCompared, comes_first}
use Rattle.view_diff.specs.Comparing.{CanCompare}
use Rattle.view_diff.specs.Laws.{PartsByAReply, PartsByAReplyAlone}
use Rattle.wiz_tool.specs.declared.status.Status.{Status}
use Rattle.wiz_tool.specs.declared.status.Status.TheVariants.{Done, Parted}
use Rattle.wiz_tool.specs.Outcomes.{TaskOutcome}
use Rattle.wiz_tool.specs.Statuses.{of_stands}
use Rattle.wiz_logs.specs.Regroupings.{traces_outcome}
use Rattle.wiz_task.specs.Replayings.{IsReplayOf}

-- ---- the outcome

-- two runs part where some rank of the group parts first
abbrev pub of_comparison : List Compared → Status
of_comparison ranks = if list_any comes_first ranks then Parted else Done

-- the comparison is told
abbrev pub compared_outcome : Replayed → Replayed → List Compared → TaskOutcome
compared_outcome first second ranks = record {
  files = [];
  text = diff_text first.events.events second.events.events ranks;
  status = of_comparison ranks;
  run = None;
  replays = first ∷ second ∷ [];
}

-- where both replays are done, else their traces
abbrev pub diff_outcome_by : Status → Replayed → Replayed → List Compared → TaskOutcome
diff_outcome_by Done first second ranks = compared_outcome first second ranks
diff_outcome_by status first second ranks = traces_outcome status (first ∷ second ∷ [])

-- how a comparison of two replays is told
abbrev pub diff_outcome : Replayed → Replayed → List Compared → TaskOutcome
diff_outcome first second ranks = diff_outcome_by (of_stands (first.ends ++ second.ends)) first second ranks

-- ---- what is done

-- two logs of one program and one group are replayed, each with their program, without a breakpoint, and compared, rank by rank. For every
-- program of their text a rank that parts was answered in two ways, or one replay is cut short; where the logs are of runs the comparison is
-- told, and where they are of one run nothing parts. A rank whose views are equal, numbers of communicators too, has printed the same
pub record Compares (one other : Log) (outcome : TaskOutcome) : Type 0 where
  pub can_compare : CanCompare one other
  pub first : Replayed
  pub second : Replayed
  pub first_replay : IsReplayOf one.program one None first
  pub second_replay : IsReplayOf other.program other None second
  pub ranks : List Compared
  pub compared : AreCompared one.ranks one.group first.events.events second.events.events ranks
  pub is_outcome : outcome ≡ diff_outcome first second ranks
  pub parts : (program : Program) → IsProgramOf one.program program
      → PartsByAReply (next_of program) one.ranks one.group first.events.events second.events.events
      × PartsByAReplyAlone (next_of program) one.ranks one.group first.events.events second.events.events
  pub outputs : (program : Program) (rank : ℕ) → IsProgramOf one.program program → view_of first.events.events rank ≡ view_of second.events.events rank
      → printed_of (output_of program) one.ranks first.events.events rank ≡ printed_of (output_of program) one.ranks second.events.events rank
  pub of_runs : (program : Program) (run other_run : List Event) → IsProgramOf one.program program → IsRunWith (next_of program) one run
      → IsRunWith (next_of program) other other_run → outcome ≡ compared_outcome first second ranks
  pub of_one_run : (program : Program) (run : List Event) → IsProgramOf one.program program → IsRunWith (next_of program) one run
      → IsRunWith (next_of program) other run → outcome.status ≡ Done
