-- What is recorded and replayed.
use Rattle.c_program.specs.View.{pure_program}
use Rattle.std.specs.Prelude.{Bool}
use Rattle.c_program.specs.Tree.{Program}
use Rattle.c_types.specs.Checks.{IsProgramOf}
use Rattle.srr_entry.specs.declared.log.Log.{Log}
use Rattle.wiz_runs.specs.declared.commands.check.CheckedRun.{CheckedRun}
use Rattle.wiz_task.specs.declared.ready.Ready.{Ready}
use Rattle.wiz_task.specs.inside.Recording.{IsMadeRecording}
use Rattle.wiz_task.specs.Recordings.{IsReadable}
use Rattle.wiz_task.specs.Replayings.{AreChecksOf}

-- a log with the text of a program, which can be read back from its own text
pub record IsKeptLog (program : Program) (log : Log) : Type 0 where
  pub readable : IsReadable log
  pub is_program : IsProgramOf log.program program

-- beside it the replay of each group's log
pub record IsCheckedRun (is_threaded : Bool) (ready : Ready) (checked : CheckedRun) : Type 0 where
  pub made : IsMadeRecording is_threaded ready checked.recording
  pub checks : AreChecksOf (pure_program ready.program) checked.recording.history.events checked.recording.logs checked.replays
