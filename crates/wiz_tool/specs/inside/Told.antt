-- How the end of a command is told.
use Rattle.std.specs.Prelude.{◌≡◌, ◌⊎◌, List, Result, Ok, Err}
use Rattle.std.specs.String.{string_bytes}
use Rattle.std.specs.declared.alloc.AllocError.{AllocError}
use Rattle.wiz_io.specs.Files.{ObservedFiles, HasRisen}
use Rattle.wiz_io.specs.Output.{ObservedOutput}
use Rattle.wiz_tool.specs.declared.failure.Failure.{Failure}
use Rattle.wiz_tool.specs.declared.failure.Failure.TheVariants.{Refused as IsRefused, OutOfMemory}
use Rattle.wiz_tool.specs.declared.writing.Unwritten.{Unwritten}
use Rattle.wiz_tool.specs.declared.writing.Unwritten.TheVariants.{Failed, OutOfMemory as WriteMemory}
use Rattle.wiz_tool.specs.declared.report.Done.{Done}
use Rattle.wiz_tool.specs.declared.report.Report.{Report}
use Rattle.wiz_tool.specs.Outcomes.{refusal_outcome, IsCarriedOut, IsPartlyDone, IsPut, IsUnwritten, TaskOutcome, out_of_memory}
use Rattle.wiz_tool.specs.Files.{ArePartlyWritten, IsStoppedAt, NamedFile}
use Rattle.wiz_tool.specs.Inputs.{Refused}
use Rattle.wiz_tool.specs.Output.{GrewByPart}
use Rattle.wiz_tool.specs.Environment.{Around}

-- what is said of a refusal holds; being out of memory says nothing
abbrev pub IsFailureBy : (Refused → Type 0) → Failure → Type 0
IsFailureBy IsSo (IsRefused refusal name) = IsSo (record { refusal = refusal; name = name.now })
IsFailureBy IsSo OutOfMemory = Unit {0}

-- an outcome is told
abbrev pub IsReportedBy : TaskOutcome → Around → Result Report AllocError → Type 0
IsReportedBy outcome call (Ok report) = IsCarriedOut outcome call.before call.after report ⊎ IsUnwritten outcome call.before call.after report
IsReportedBy outcome call (Err error) = IsPartlyDone outcome call.before call.after

-- what is told when these files are written
abbrev pub outcome_written : List NamedFile → Done → TaskOutcome
outcome_written files done = record { files = files; text = done.text; status = done.status; run = done.run; replays = done.replays }

-- a refusal is told; or memory was out, and a part of its message may be out
abbrev pub IsRefusalReported : Refused → ObservedOutput → ObservedOutput → Report → Type 0
IsRefusalReported refused before after report =
    IsPut (refusal_outcome refused) before after report
    ⊎ (GrewByPart before.bytes after.bytes (refusal_outcome refused).text × (report ≡ out_of_memory))

-- the report is what was answered, or a refusal is told
abbrev pub IsReportSettled : Result Report Failure → ObservedOutput → ObservedOutput → Report → Type 0
IsReportSettled (Ok answer) before after report = (report ≡ answer) × (after ≡ before)
IsReportSettled (Err (IsRefused refusal name)) before after report =
    IsRefusalReported (record { refusal = refusal; name = name.now }) before after report
IsReportSettled (Err OutOfMemory) before after report = (report ≡ out_of_memory) × (after ≡ before)

-- the files are written up to one that is not, or memory was out
abbrev pub IsStopped : ObservedFiles → ObservedFiles → List NamedFile → Unwritten → Type 0
IsStopped before after files (Failed name) =
    HasRisen before.writes after.writes × IsStoppedAt before.files after.files files (string_bytes name)
IsStopped before after files WriteMemory = ArePartlyWritten before.files after.files files
