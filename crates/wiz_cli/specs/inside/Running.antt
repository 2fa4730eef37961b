-- A runner of two calls.
use Rattle.std.specs.Prelude.{Result, IfOk, Bool}
use Rattle.std.specs.Borrow.{Bor}
use Rattle.std.specs.declared.alloc.AllocError.{AllocError}
use Rattle.c_program.specs.View.{pure_program}
use Rattle.c_program.specs.declared.program.CProgram.{CProgram}
use Rattle.replay_model.specs.declared.replayed.Replayed.{Replayed}
use Rattle.replay_model.specs.Replays.{Breakpoint}
use Rattle.srr_entry.specs.declared.log.Log.{Log}
use Rattle.srr_record.specs.declared.recording.Recording.{Recording}
use Rattle.srr_replay.specs.Rounds.{IsReplayable}
use Rattle.wiz_task.specs.declared.ready.Ready.{Ready}
use Rattle.wiz_task.specs.inside.Recording.{CanRun, IsMadeRecording}
use Rattle.wiz_task.specs.inside.Replaying.{IsReplayBy}

-- what a recording may be made of
abbrev pub TakesReady : Type 1
TakesReady = Bor Ready → Type 0

-- what a replay may be made of
abbrev pub TakesLog : Type 1
TakesLog = Bor CProgram → Bor Log → Breakpoint → Type 0

-- what a recording answers
abbrev pub GivesRecording : Type 1
GivesRecording = Bor Ready → Result Recording AllocError → Type 0

-- what a replay answers
abbrev pub GivesReplay : Type 1
GivesReplay = Bor CProgram → Bor Log → Breakpoint → Result Replayed AllocError → Type 0

-- a call that records and one that replays, on threads or on one, by what each takes and what it answers
pub record IsRunnerBy (is_threaded : Bool) (Takes : TakesReady) (Records : GivesRecording) (TakesALog : TakesLog) (Replays : GivesReplay) : Type 0 where
  pub takes_ready : (ready : Bor Ready) → CanRun ready.now → Takes ready
  pub records : (ready : Bor Ready) (made : Result Recording AllocError) → Records ready made → IfOk made (IsMadeRecording is_threaded ready.now)
  pub takes_log : (program : Bor CProgram) (log : Bor Log) (stop : Breakpoint) → IsReplayable log.now → TakesALog program log stop
  pub replays : (program : Bor CProgram) (log : Bor Log) (stop : Breakpoint) (made : Result Replayed AllocError)
      → Replays program log stop made → IfOk made (IsReplayBy (pure_program program.now) log.now stop)
