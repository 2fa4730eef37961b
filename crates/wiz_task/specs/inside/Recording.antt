-- What is run, and the recording of it.
use Rattle.c_program.specs.View.{pure_program}
use Rattle.std.specs.Prelude.{◌≡◌, ◌≤◌, List, Bool, length}
use Rattle.std.specs.List.{AllByRecursion}
use Rattle.mpi_call.specs.declared.limits.TheConstants.{MOST_RANKS}
use Rattle.srr_entry.specs.declared.log.Log.{Log}
use Rattle.srr_record.specs.declared.recording.Recording.{Recording}
use Rattle.srr_log.specs.Bounds.{IsInBounds}
use Rattle.wiz_task.specs.declared.ready.Ready.{Ready}
use Rattle.wiz_tool.specs.Inputs.{text_limit}
use Rattle.wiz_task.specs.Recordings.{ArePrepared, IsRecordingOf, RunTexts}

-- each log has a text
abbrev pub AreInBounds : List Log → Type 0
AreInBounds logs = AllByRecursion IsInBounds logs

-- it is what these texts hold; the program's text is not longer than such a file may be
pub record IsReadyToRecord (texts : RunTexts) (ready : Ready) : Type 0 where
  pub text : ready.text ≡ texts.program
  pub short : length texts.program ≤ text_limit
  pub prepared : ArePrepared texts (pure_program ready.program) ready.plan ready.turns

-- what can be run: the texts that it was read from are a program, a plan and an order
abbrev pub CanRun : Ready → Type 0
CanRun ready = (texts : RunTexts) × IsReadyToRecord texts ready

-- a recording of it, with a log for each of at most `MOST_RANKS` groups
pub record IsMadeRecording (is_threaded : Bool) (ready : Ready) (recording : Recording) : Type 0 where
  pub is_recording : IsRecordingOf is_threaded ready.text (pure_program ready.program) ready.plan ready.turns recording
  pub in_bounds : AreInBounds recording.logs
  pub few : length recording.logs ≤ MOST_RANKS
