-- Commands that read logs: their input files, what is required of these, and what is done with a log.
use Rattle.clap.specs.Words.{Text}
use Rattle.group_plan.specs.PlanText.{IsPlanText}
use Rattle.srr_log.specs.declared.limits.TheConstants.{MOST_LOG_BYTES}
use Rattle.replay_model.specs.Replays.{Breakpoint}
use Rattle.replay_model.specs.declared.replayed.Replayed.{Replayed}
use Rattle.srr_entry.specs.declared.log.Log.{Log}
use Rattle.srr_log2.specs.Formats.{IsTextOfLog}
use Rattle.srr_log2.specs.LogBytes.{log_bytes}
use Rattle.srr_log.specs.LogText.{log_text}
use Rattle.std.specs.Prelude.{Bool, List, None, [], false, true, ℕ, ◌∷◌, ◌≡◌}
use Rattle.wiz_logs.specs.Regroupings.{Refines}
use Rattle.wiz_task.specs.Replayings.{IsReplayOf}
use Rattle.wiz_task.specs.Requirements.{Requirement, a_comparison, a_join, a_log, a_plan, a_program, a_refinement, its_program}
use Rattle.wiz_logs.specs.Views.{TellsView}
use Rattle.wiz_logs.specs.declared.viewing.ask.ReplayView.{ReplayView}
use Rattle.wiz_task.specs.Names.{Plan}
use Rattle.wiz_task.specs.Tasks.{Task}
use Rattle.wiz_tool.specs.Inputs.{Input, input, option_input, text_limit}
use Rattle.wiz_tool.specs.Outcomes.{TaskOutcome}
use Rattle.wiz_tool.specs.Statuses.{of_stands}
use Rattle.wiz_tool.specs.declared.status.Status.TheVariants.{Done}
use Rattle.wiz_trace.specs.TraceTexts.{trace_text}
use Rattle.wiz_words.specs.declared.command.ReplayWords.{ReplayWords}

-- the input files of a replay: a log, and a program where one is named
abbrev pub replay_inputs : ReplayWords Text → List Input
replay_inputs replay = input MOST_LOG_BYTES replay.log ∷ option_input text_limit replay.program

-- the input files of `refine`: a log and a plan
abbrev pub refine_inputs : Text → Text → List Input
refine_inputs log plan = input MOST_LOG_BYTES log ∷ input text_limit plan ∷ []

-- the input files of two logs
abbrev pub join_inputs : Text → Text → List Input
join_inputs one other = input MOST_LOG_BYTES one ∷ input MOST_LOG_BYTES other ∷ []

-- what is required of the input files of a replay: a log and its program, or another one
abbrev pub replay_requirements : List Text → List Requirement
replay_requirements (bytes ∷ []) = a_log bytes ∷ its_program bytes ∷ []
replay_requirements (bytes ∷ text ∷ more) = a_log bytes ∷ a_program text ∷ []
replay_requirements texts = []

-- what is required of the input file of a log
abbrev pub log_requirements : List Text → List Requirement
log_requirements (bytes ∷ more) = a_log bytes ∷ []
log_requirements texts = []

-- what is required of a log and a plan that refines it
abbrev pub refine_requirements : List Text → List Requirement
refine_requirements (bytes ∷ plan ∷ more) = a_log bytes ∷ a_plan plan ∷ a_refinement bytes plan ∷ its_program bytes ∷ []
refine_requirements texts = []

-- logs that can be joined have one program
abbrev pub join_requirements : List Text → List Requirement
join_requirements (bytes ∷ others ∷ more) = a_log bytes ∷ a_log others ∷ a_join bytes others ∷ its_program bytes ∷ []
join_requirements texts = []

-- logs that can be compared have one program
abbrev pub diff_requirements : List Text → List Requirement
diff_requirements (bytes ∷ others ∷ more) = a_log bytes ∷ a_log others ∷ a_comparison bytes others ∷ its_program bytes ∷ []
diff_requirements texts = []

-- the log that the first file holds, in either format, and the program with which it is replayed: that of the second file, or its own
abbrev pub IsLogOf : List Text → Log → Type 0
IsLogOf [] log = ⊥
IsLogOf (bytes ∷ more) log = IsTextOfLog bytes log

-- the text of the program with which a log is replayed
abbrev pub asked_program : List Text → Log → Text
asked_program (bytes ∷ text ∷ more) log = text
asked_program texts log = log.program

-- the plan that the second file holds
abbrev pub IsPlanOf : List Text → Plan → Type 0
IsPlanOf (bytes ∷ plan ∷ more) groups = IsPlanText plan groups
IsPlanOf texts groups = ⊥

-- the logs that the first file and the second hold
abbrev pub AreLogsOf : List Text → Log → Log → Type 0
AreLogsOf (bytes ∷ others ∷ more) one other = IsTextOfLog bytes one × IsTextOfLog others other
AreLogsOf texts one other = ⊥

-- how a replay is told
abbrev pub replay_outcome : Replayed → TaskOutcome
replay_outcome replayed = record {
  files = [];
  text = trace_text replayed;
  status = of_stands replayed.ends;
  run = None;
  replays = replayed ∷ [];
}

-- a log is replayed with the program of a text
abbrev pub TellsReplay : Text → Log → Breakpoint → TaskOutcome → Type 0
TellsReplay text log stop outcome =
    (replayed : Replayed) × IsReplayOf text log stop replayed × (outcome ≡ replay_outcome replayed)

-- the text of a log in format 1, or in format 2
abbrev pub converted : Bool → Log → List ℕ
converted true log = log_text log
converted false log = log_bytes log

-- one file is written, and nothing is put out
abbrev pub convert_outcome : Text → List ℕ → TaskOutcome
convert_outcome file bytes = record {
  files = (record { name = file; bytes = bytes }) ∷ [];
  text = [];
  status = Done;
  run = None;
  replays = [];
}

-- ---- the tasks

-- a log is read, and this is told of it
abbrev pub log_task : Text → (Log → TaskOutcome) → Task
log_task name told =
    record { inputs = input MOST_LOG_BYTES name ∷ []; requirements = log_requirements; Does = λ texts outcome. (log : Log) × IsLogOf texts log × (outcome ≡ told log) }

-- a log is replayed with the program of a text, and told
abbrev pub replay_task : ReplayWords Text → (Text → Log → Breakpoint → TaskOutcome → Type 0) → Task
replay_task replay Tells = record {
  inputs = replay_inputs replay;
  requirements = replay_requirements;
  Does = λ texts outcome. (log : Log) × IsLogOf texts log × Tells (asked_program texts log) log replay.stop outcome;
}

-- and what is asked of the replay is told
abbrev pub view_task : ReplayWords Text → ReplayView Text → Task
view_task replay view = replay_task replay (λ text log stop. TellsView text log stop view)

-- a log is refined by a plan
abbrev pub refine_task : Text → Text → Text → Task
refine_task log plan prefix = record {
  inputs = refine_inputs log plan;
  requirements = refine_requirements;
  Does = λ texts outcome. (log : Log) × (groups : Plan) × IsLogOf texts log × IsPlanOf texts groups × Refines prefix log groups outcome;
}

-- two logs are joined, or compared
abbrev pub logs_task : Text → Text → (List Text → List Requirement) → (Log → Log → TaskOutcome → Type 0) → Task
logs_task one other requirements Does = record {
  inputs = join_inputs one other;
  requirements = requirements;
  Does = λ texts outcome. (first : Log) × (second : Log) × AreLogsOf texts first second × Does first second outcome;
}
