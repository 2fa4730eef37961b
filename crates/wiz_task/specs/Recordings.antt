-- Commands that record: a program is run on a plan's ranks.
use Rattle.std.specs.Prelude.{◌≡◌, ◌≤◌, ℕ, List, [], Option, Some, None, Bool, false, length}
use Rattle.std.specs.List.{AllByRecursion}
use Rattle.clap.specs.Words.{Text}
use Rattle.c_program.specs.Tree.{Program}
use Rattle.c_program.specs.Program.{next_of, output_of}
use Rattle.c_types.specs.Checks.{IsProgramOf}
use Rattle.explanation_text.specs.OrderTexts.{order_text}
use Rattle.group_plan.specs.OrderText.{IsOrderText}
use Rattle.group_plan.specs.Plans.{number_of_ranks}
use Rattle.group_plan.specs.PlanText.{IsPlanText}
use Rattle.srr_log.specs.declared.limits.TheConstants.{MOST_LOG_BYTES}
use Rattle.replay_model.specs.Laws.{IsRunWith}
use Rattle.run_model.specs.declared.event.Event.{Event}
use Rattle.picked_runs.specs.declared.turn.Turn.{Turn}
use Rattle.picked_runs.specs.Made.{picks_of}
use Rattle.picked_runs.specs.Numbering.{AreNumberedInOrder}
use Rattle.picked_runs.specs.Picked.{IsPicked}
use Rattle.picked_runs.specs.Turns.{IsRunByTurns, turns_of}
use Rattle.run_model.specs.Chosen.{order_of}
use Rattle.run_model.specs.Lists.{IsPrefixOf}
use Rattle.run_model.specs.MachineLaws.{has_stuck}
use Rattle.run_model.specs.Run.{IsPromptRun}
use Rattle.run_model.specs.Views.{Next}
use Rattle.srr_entry.specs.declared.log.Log.{Log}
use Rattle.srr_log2.specs.LogBytes.{AreLogBytes, log_bytes}
use Rattle.srr_record.specs.declared.recording.Recording.{Recording}
use Rattle.srr_record.specs.Recordings.{IsRecorded, IsRunInTurns}
use Rattle.wiz_task.specs.Names.{Plan}
use Rattle.wiz_tool.specs.Outcomes.{TaskOutcome}

-- the texts of a run: a program, a plan, and an order, where one is given
pub record RunTexts : Type 0 where
  pub program : Text
  pub plan : Text
  pub order : Option Text

-- the turns that come before the rounds: those of the order file, or none
abbrev pub AreTurns : ℕ → Option Text → List Turn → Type 0
AreTurns n None turns = turns ≡ []
AreTurns n (Some text) turns = IsOrderText n text turns

-- the texts hold a program, a plan, and turns of its ranks
pub record ArePrepared (texts : RunTexts) (program : Program) (groups : Plan) (turns : List Turn) : Type 0 where
  pub is_program : IsProgramOf texts.program program
  pub is_plan : IsPlanText texts.plan groups
  pub are_turns : AreTurns (number_of_ranks groups) texts.order turns

-- on one thread: the run of the turns, and the only one. It begins with each run that these turns are the order and the picks of, and so
-- with each run in which nothing is late, where they are its order and what it picked; the run has no Stuck reply, and its new
-- communicators are numbered as a recording numbers them
pub record IsInTurns (next : Next) (n : ℕ) (turns : List Turn) (events : List Event) : Type 0 where
  pub run : IsRunInTurns next n turns events
  pub only : (others : List Event) → IsRunByTurns next n turns others → others ≡ events
  pub allowed : (run : List Event) → IsPromptRun next n run → AreNumberedInOrder n run → has_stuck run ≡ false → turns_of (order_of run) (picks_of n run) ≡ turns → IsPrefixOf run events

-- the run is the only one with its order in which the same was picked
abbrev pub IsAlone : Next → ℕ → Recording → Type 0
IsAlone next n recording =
    (other : List Event) → IsPicked next n recording.picks.written other → order_of other ≡ order_of recording.history.events → other ≡ recording.history.events

-- the order file lists the run's turns: whose each event is, and what it picked
abbrev pub IsOrderOf : ℕ → Recording → Type 0
IsOrderOf n recording =
    IsOrderText n (order_text recording.history.events recording.picks.written) (turns_of (order_of recording.history.events) recording.picks.written)

-- the text of a log in format 2 is one that a log file may have, and is read as this log
pub record IsReadable (log : Log) : Type 0 where
  pub is_text : AreLogBytes (log_bytes log) log
  pub short : length (log_bytes log) ≤ MOST_LOG_BYTES

-- a run of the program on the plan's ranks in which each has ended, with the log of each group, what each rank printed, and how it
-- ended; on one thread it is that of the turns. Its order and what it picked fix it, and can be read back. So can each log, which is one of
-- this run, so that what is said of its replays beside a run with the log is said beside this one
pub record IsRecordingOf (is_threaded : Bool) (text : Text) (program : Program) (groups : Plan) (turns : List Turn) (recording : Recording) : Type 0 where
  pub recorded : IsRecorded (next_of program) (output_of program) (number_of_ranks groups) text groups recording
  pub in_turns : is_threaded ≡ false → IsInTurns (next_of program) (number_of_ranks groups) turns recording.history.events
  pub alone : IsAlone (next_of program) (number_of_ranks groups) recording
  pub order : IsOrderOf (number_of_ranks groups) recording
  pub readable : AllByRecursion IsReadable recording.logs
  pub of_the_run : AllByRecursion (λ log. IsRunWith (next_of program) log recording.history.events) recording.logs

-- a run of what the texts hold is recorded, and the outcome tells it
pub record Records (is_threaded : Bool) (texts : RunTexts) (Tells : Program → Plan → Recording → TaskOutcome → Type 0) (outcome : TaskOutcome) : Type 0 where
  pub program : Program
  pub groups : Plan
  pub turns : List Turn
  pub recording : Recording
  pub prepared : ArePrepared texts program groups turns
  pub is_recording : IsRecordingOf is_threaded texts.program program groups turns recording
  pub tells : Tells program groups recording outcome
