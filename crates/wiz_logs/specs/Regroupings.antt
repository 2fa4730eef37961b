-- Commands that regroup logs: a log is refined by a plan, or two logs are joined. Each log is replayed, and logs are made from the replays.
use Rattle.std.specs.Prelude.{◌≡◌, ◌≤◌, ◌++◌, ℕ, suc, List, [], ◌∷◌, None, if◌then◌else◌, length}
use Rattle.std.specs.List.{AllByRecursion}
use Rattle.clap.specs.Words.{Text}
use Rattle.c_program.specs.Tree.{Program}
use Rattle.c_program.specs.Program.{next_of}
use Rattle.c_types.specs.Checks.{IsProgramOf}
use Rattle.srr_log.specs.declared.limits.TheConstants.{MOST_LOG_BYTES}
use Rattle.replay_model.specs.declared.replayed.Replayed.{Replayed}
use Rattle.replay_model.specs.declared.replayed.Stand.{Stand}
use Rattle.replay_model.specs.Laws.{IsRunWith}
use Rattle.run_model.specs.declared.event.Event.{Event}
use Rattle.srr_entry.specs.declared.log.Log.{Log}
use Rattle.srr_entry.specs.Entries.{log_of}
use Rattle.srr_log2.specs.LogBytes.{AreLogBytes, log_bytes}
use Rattle.srr_regroup.specs.Joining.{CanJoin}
use Rattle.srr_regroup.specs.Refining.{CanRefine}
use Rattle.srr_regroup.specs.Regrouping.{are_within, both_groups, joined_log, refined}
use Rattle.wiz_trace.specs.RegroupTexts.{joined_text, refined_text}
use Rattle.wiz_trace.specs.TraceTexts.{traces_text}
use Rattle.wiz_tool.specs.declared.status.Status.{Status}
use Rattle.wiz_tool.specs.declared.status.Status.TheVariants.{Done}
use Rattle.wiz_tool.specs.Files.{NamedFile}
use Rattle.wiz_task.specs.Names.{Plan}
use Rattle.wiz_tool.specs.Outcomes.{TaskOutcome}
use Rattle.wiz_tool.specs.LogFiles.{log_name}
use Rattle.wiz_task.specs.Replayings.{IsReplayOf}
use Rattle.wiz_tool.specs.Statuses.{of_stands}

-- ---- the files, by what the log of each group is

-- PREFIX.k.srr for group k of a plan where it lies in the group of a log, in format 2
abbrev pub part_file : Text → List ℕ → (List ℕ → Log) → ℕ → List ℕ → List NamedFile
part_file prefix inside log_of_part k part =
    if are_within inside part then (record { name = log_name prefix k; bytes = log_bytes (log_of_part part) }) ∷ [] else []

-- for the groups from k on, in their order
abbrev pub part_files : Text → List ℕ → (List ℕ → Log) → ℕ → Plan → List NamedFile
part_files prefix inside log_of_part k [] = []
part_files prefix inside log_of_part k (part ∷ parts) =
    part_file prefix inside log_of_part k part ++ part_files prefix inside log_of_part (suc k) parts

-- one file for a log, in format 2
abbrev pub log_file : Text → Log → List NamedFile
log_file name log = (record { name = name; bytes = log_bytes log }) ∷ []

-- these files hold the text of this log, in format 2
abbrev pub HoldLog : Log → List NamedFile → Type 0
HoldLog log files = AllByRecursion (λ (file : NamedFile). AreLogBytes file.bytes log) files

-- the file of each group holds that of the group's log; for the groups from k on, in their order
abbrev pub HoldTheirLogs : Text → List ℕ → (List ℕ → Log) → ℕ → Plan → Type 0
HoldTheirLogs prefix inside log_of_part k [] = Unit {0}
HoldTheirLogs prefix inside log_of_part k (part ∷ parts) =
    HoldLog (log_of_part part) (part_file prefix inside log_of_part k part) × HoldTheirLogs prefix inside log_of_part (suc k) parts

-- none is longer than the file of a log may be
abbrev pub AreShort : List NamedFile → Type 0
AreShort files = AllByRecursion (λ (file : NamedFile). length file.bytes ≤ MOST_LOG_BYTES) files

-- ---- the outcome

-- where the ranks of replays stand, one replay after the other
abbrev pub stands_of : List Replayed → List Stand
stands_of [] = []
stands_of (replayed ∷ replays) = replayed.ends ++ stands_of replays

-- files are written and a text is put out
abbrev pub done_outcome : List NamedFile → Text → List Replayed → TaskOutcome
done_outcome files text replays = record { files = files; text = text; status = Done; run = None; replays = replays }

-- nothing is written, and the traces of the replays are put out
abbrev pub traces_outcome : Status → List Replayed → TaskOutcome
traces_outcome status replays = record { files = []; text = traces_text replays; status = status; run = None; replays = replays }

-- the former where all is done, else the latter
abbrev pub outcome_by : Status → List NamedFile → Text → List Replayed → TaskOutcome
outcome_by Done files text replays = done_outcome files text replays
outcome_by status files text replays = traces_outcome status replays

-- by the stands of all replays together
abbrev pub regroup_outcome : List NamedFile → Text → List Replayed → TaskOutcome
regroup_outcome files text replays = outcome_by (of_stands (stands_of replays)) files text replays

-- how a replay is told whose log is refined by a plan
abbrev pub refine_outcome : Text → Log → Plan → Replayed → TaskOutcome
refine_outcome prefix log groups replayed =
    regroup_outcome (part_files prefix log.group (refined log replayed.events.events) 0 groups) (refined_text log.group groups) (replayed ∷ [])

-- how the replays of two logs are told that are joined
abbrev pub join_outcome : Text → Log → Replayed → Log → Replayed → TaskOutcome
join_outcome file one first other second =
    regroup_outcome (log_file file (joined_log one first.events.events other second.events.events)) (joined_text (both_groups one other)) (first ∷ second ∷ [])

-- ---- what is done

-- all is done, and these files are written, none longer than the file of a log may be
abbrev pub IsDoneWith : List NamedFile → TaskOutcome → Type 0
IsDoneWith files outcome = (outcome.status ≡ Done) × (outcome.files ≡ files) × AreShort files

-- a log is replayed with its own program, without a breakpoint, and refined. Each file holds the text of the log that is made for its
-- group. For every program of the log's text and every run with this log the files are the logs of the run itself: byte for byte those
-- that a recording of the run writes for these groups of the plan
pub record Refines (prefix : Text) (log : Log) (groups : Plan) (outcome : TaskOutcome) : Type 0 where
  pub can_refine : CanRefine log groups
  pub replayed : Replayed
  pub replay : IsReplayOf log.program log None replayed
  pub is_outcome : outcome ≡ refine_outcome prefix log groups replayed
  pub texts : HoldTheirLogs prefix log.group (refined log replayed.events.events) 0 groups
  pub of_runs : (program : Program) (run : List Event) → IsProgramOf log.program program → IsRunWith (next_of program) log run
      → IsDoneWith (part_files prefix log.group (log_of log.program log.ranks run) 0 groups) outcome

-- two logs are replayed, each alone, with their program, without a breakpoint, and joined. The file holds the text of the log that is
-- made. For every program of their text and every run with both logs the file is the log of the run itself
pub record Joins (file : Text) (one other : Log) (outcome : TaskOutcome) : Type 0 where
  pub can_join : CanJoin one other
  pub first : Replayed
  pub second : Replayed
  pub first_replay : IsReplayOf one.program one None first
  pub second_replay : IsReplayOf other.program other None second
  pub is_outcome : outcome ≡ join_outcome file one first other second
  pub text : HoldLog (joined_log one first.events.events other second.events.events) (log_file file (joined_log one first.events.events other second.events.events))
  pub of_runs : (program : Program) (run : List Event) → IsProgramOf one.program program → IsRunWith (next_of program) one run
      → IsRunWith (next_of program) other run → IsDoneWith (log_file file (log_of one.program one.ranks run (both_groups one other))) outcome
