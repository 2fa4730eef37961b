-- Telling work whose files are written, or one of them not.
use Rattle.std.proofs.Common.{◌≡◌, ap, inl, inr, subst, ℕ, List, [], Ok, Err, IfOk, OnErr, Result}
use Rattle.std.specs.declared.alloc.AllocError.{AllocError}
use Rattle.wiz_io.specs.Files.{ObservedFiles, HasRisen}
use Rattle.wiz_io.specs.Output.{ObservedOutput}
use Rattle.wiz_tool.specs.declared.report.Done.{Done}
use Rattle.wiz_tool.specs.declared.report.Report.{Report}
use Rattle.wiz_tool.specs.declared.status.Status.TheVariants as s
use Rattle.wiz_tool.specs.Environment.{Environment, around_of, environment}
use Rattle.wiz_tool.specs.Files.{AreWritten, IsStoppedAt, NamedFile}
use Rattle.wiz_tool.specs.Messages.{unwritten_text}
use Rattle.wiz_tool.specs.Outcomes.{IsPut, TaskOutcome}
use Rattle.wiz_tool.specs.Output.{GrewByPart, HasSaid}
use Rattle.wiz_tool.specs.Statuses.{status_number}
use Rattle.wiz_tool.specs.inside.Told.{IsReportedBy, outcome_written}

pub written_finish : (files : List NamedFile) (done : Done) (before : Environment) (store : ObservedFiles) (mid out : ObservedOutput) (result : Result Report AllocError)
    → before.out ≡ mid → AreWritten before.store.files store.files files []
    → IfOk result (λ report. (named : List NamedFile) → IsPut (outcome_written named done) mid out report)
    → OnErr result (GrewByPart mid.bytes out.bytes done.text) → IsReportedBy (outcome_written files done) (around_of before (environment store out)) result
written_finish files done before store mid out (Ok report) same ok put short = inl (record { files = ok; put = rw same (put files) })
written_finish files done before store mid out (Err error) same ok put short = inr (inl (ok, rw same short))

pub failed_finish : (files : List NamedFile) (done : Done) (before : Environment) (store : ObservedFiles) (mid out : ObservedOutput) (result : Result Report AllocError)
    (name : List ℕ) → before.out ≡ mid → HasRisen before.store.writes store.writes → IsStoppedAt before.store.files store.files files name
    → IfOk result (λ report. HasSaid mid out (unwritten_text name)
    × (report ≡ record { status = status_number s.Unwritten; run = done.run; replayed = done.replays }))
    → OnErr result (GrewByPart mid.bytes out.bytes (unwritten_text name)) → IsReportedBy (outcome_written files done) (around_of before (environment store out)) result
failed_finish files done before store mid out (Ok report) name same risen stopped said short =
    inr (record { name = name; files = stopped; risen = risen; said = rw same said.0; is_report = said.1 })
failed_finish files done before store mid out (Err error) name same risen stopped said short =
    inr (inr (name, stopped, risen, rw same short))

-- what is told of one outcome is told of an equal one
pub told_same : (one other : TaskOutcome) (before after : Environment) (result : Result Report AllocError) → one ≡ other
    → IsReportedBy one (around_of before after) result → IsReportedBy other (around_of before after) result
told_same one other before after result same told = subst (λ (outcome : TaskOutcome). IsReportedBy outcome (around_of before after) result) same told

-- an outcome with other files
abbrev pub of_files : List NamedFile → TaskOutcome → TaskOutcome
of_files files outcome =
    record { files = files; text = outcome.text; status = outcome.status; run = outcome.run; replays = outcome.replays }

pub with_files : (files : List NamedFile) (done : Done) (outcome : TaskOutcome) → outcome_written [] done ≡ outcome → outcome_written files done ≡ of_files files outcome
with_files files done outcome same = ap (of_files files) same
