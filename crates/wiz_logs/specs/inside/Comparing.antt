-- What is compared.
use Rattle.std.specs.Prelude.{List, None}
use Rattle.clap.specs.Words.{Text}
use Rattle.c_program.specs.View.{pure_program}
use Rattle.c_types.specs.Checks.{IsProgramOf}
use Rattle.replay_model.specs.declared.replayed.Replayed.{Replayed}
use Rattle.srr_replay.specs.Rounds.{IsReplayable}
use Rattle.view_diff.specs.Comparing.{CanCompare}
use Rattle.wiz_logs.specs.declared.comparing.subject.TwoRuns.{TwoRuns}
use Rattle.wiz_logs.specs.Logs.{AreLogsOf}
use Rattle.wiz_task.specs.Replayings.{IsReplayOf}

-- they are the logs that the texts of files hold, which can be compared, and their program
pub record AreTwoRunsOf (texts : List Text) (runs : TwoRuns) : Type 0 where
  pub are_logs : AreLogsOf texts runs.one runs.other
  pub can_compare : CanCompare runs.one runs.other
  pub is_program : IsProgramOf runs.one.program (pure_program runs.program)

-- such logs, and the replay of each
pub record AreReplayedRuns (runs : TwoRuns) (first second : Replayed) : Type 0 where
  pub can_compare : CanCompare runs.one runs.other
  pub is_program : IsProgramOf runs.one.program (pure_program runs.program)
  pub replayable : IsReplayable runs.one
  pub first_replay : IsReplayOf runs.one.program runs.one None first
  pub second_replay : IsReplayOf runs.other.program runs.other None second
