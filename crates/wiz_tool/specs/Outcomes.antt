-- What a command does, and how it is told: said once for all commands.
use Rattle.std.specs.Prelude.{◌≡◌, ◌≢◌, ◌⊎◌, ℕ, List, [], Option, Some, None}
use Rattle.run_model.specs.Views.{Kept}
use Rattle.replay_model.specs.declared.replayed.Replayed.{Replayed}
use Rattle.srr_record.specs.declared.recording.Recording.{Recording}
use Rattle.wiz_io.specs.Files.{HasRisen}
use Rattle.wiz_io.specs.Output.{ObservedOutput}
use Rattle.wiz_tool.specs.declared.report.Report.{Report}
use Rattle.wiz_tool.specs.declared.status.Status.{Status}
use Rattle.wiz_tool.specs.declared.status.Status.TheVariants.{Done, OutOfMemory, Unwritten}
use Rattle.wiz_tool.specs.Files.{AreWritten, ArePartlyWritten, IsStoppedAt, NamedFile}
use Rattle.wiz_tool.specs.Inputs.{Refused}
use Rattle.wiz_tool.specs.Messages.{message_text, unwritten_text}
use Rattle.wiz_tool.specs.Output.{OutputGrewBy, GrewByPart, HasSaid}
use Rattle.wiz_tool.specs.Statuses.{status_number, of_refusal, unput}
use Rattle.wiz_tool.specs.Environment.{Environment}

-- the files that it writes, in this order; the text that it puts out when they are written; its status; and what the report
-- keeps. A refusal is an outcome too: no file, and a message
pub record TaskOutcome : Type 0 where
  pub files : List NamedFile
  pub text : List ℕ
  pub status : Status
  pub run : Option Kept
  pub replays : List Replayed

-- the report of an outcome, by a status
abbrev pub report_of : Status → TaskOutcome → Report
report_of status outcome = record { status = status_number status; run = outcome.run; replayed = outcome.replays }

-- the report when memory was out
abbrev pub out_of_memory : Report
out_of_memory = record { status = status_number OutOfMemory; run = None; replayed = [] }

-- the text is out; or a part of it is, the sink's count of faults rose, and a status of work done becomes 4. Of an empty text there is nothing to
-- put, so an output that fails is no cause
abbrev pub IsPut : TaskOutcome → ObservedOutput → ObservedOutput → Report → Type 0
IsPut outcome before after report =
    (OutputGrewBy before.bytes after.bytes outcome.text × (report ≡ report_of outcome.status outcome))
    ⊎ ((outcome.text ≢ []) × GrewByPart before.bytes after.bytes outcome.text × HasRisen before.faults after.faults
    × (report ≡ report_of (unput outcome.status) outcome))

-- all files are written, and the text is put out
pub record IsCarriedOut (outcome : TaskOutcome) (before after : Environment) (report : Report) : Type 0 where
  pub files : AreWritten before.store.files after.store.files outcome.files []
  pub put : IsPut outcome before.out after.out report

-- a file is not written, those before it are, the store's count of write faults rose, and a message names that file
pub record IsUnwritten (outcome : TaskOutcome) (before after : Environment) (report : Report) : Type 0 where
  pub name : List ℕ
  pub files : IsStoppedAt before.store.files after.store.files outcome.files name
  pub risen : HasRisen before.store.writes after.store.writes
  pub said : HasSaid before.out after.out (unwritten_text name)
  pub is_report : report ≡ report_of Unwritten outcome

-- out of memory on the way: files are written in part, and nothing is out; all are, and a part of the text is out; or one
-- was not written, and a part of the message that names it is out
abbrev pub IsPartlyDone : TaskOutcome → Environment → Environment → Type 0
IsPartlyDone outcome before after =
    (ArePartlyWritten before.store.files after.store.files outcome.files × (after.out.bytes ≡ before.out.bytes))
    ⊎ ((AreWritten before.store.files after.store.files outcome.files [] × GrewByPart before.out.bytes after.out.bytes outcome.text)
    ⊎ ((name : List ℕ) × IsStoppedAt before.store.files after.store.files outcome.files name
    × HasRisen before.store.writes after.store.writes × GrewByPart before.out.bytes after.out.bytes (unwritten_text name)))

-- what a report says of a command: all was done, a file could not be written, or memory was wanting
abbrev pub IsReported : TaskOutcome → Environment → Environment → Report → Type 0
IsReported outcome before after report =
    IsCarriedOut outcome before after report
    ⊎ (IsUnwritten outcome before after report ⊎ (IsPartlyDone outcome before after × (report ≡ out_of_memory)))

-- nothing is written and nothing is out
pub record IsUntouched (before after : Environment) : Type 0 where
  pub files : after.store.files ≡ before.store.files
  pub out : after.out ≡ before.out

-- ---- outcomes

-- the outcome of a command that puts out a text and does nothing else
abbrev pub text_outcome : List ℕ → TaskOutcome
text_outcome text = record { files = []; text = text; status = Done; run = None; replays = [] }

-- no file is written, and a text of a run and its replays is put out
abbrev pub run_outcome : Status → List ℕ → Recording → List Replayed → TaskOutcome
run_outcome status text recording replays = record {
  files = [];
  text = text;
  status = status;
  run = Some recording.history;
  replays = replays;
}

-- a refusal is told by its message and its status
abbrev pub refusal_outcome : Refused → TaskOutcome
refusal_outcome refused = record {
  files = [];
  text = message_text refused.refusal refused.name;
  status = of_refusal refused.refusal;
  run = None;
  replays = [];
}
