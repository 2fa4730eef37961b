-- How a command ends: it fails, or its outcome is told.
use Rattle.std.proofs.Common.{◌≡◌, ap, inl, inr, subst, [], Ok, Err, Result, Option}
use Rattle.std.specs.declared.alloc.AllocError.{AllocError}
use Rattle.wiz_io.specs.Output.{ObservedOutput}
use Rattle.wiz_tool.specs.declared.failure.Failure.{Failure}
use Rattle.wiz_tool.specs.declared.failure.Failure.TheVariants.{Refused as IsRefused, OutOfMemory}
use Rattle.wiz_tool.specs.declared.report.Done.{Done}
use Rattle.wiz_tool.specs.declared.report.Report.{Report}
use Rattle.wiz_task.specs.Tasks.{IsDoneFor, IsRefusedFor, Task}
use Rattle.wiz_tool.specs.Inputs.{Refused}
use Rattle.wiz_tool.specs.Outcomes.{IsPut, IsUntouched, TaskOutcome, IsCarriedOut}
use Rattle.wiz_tool.specs.Output.{GrewByPart}
use Rattle.wiz_task.specs.inside.Ends.{EndsTask, EndsBy}
use Rattle.wiz_tool.specs.inside.Told.{outcome_written, IsFailureBy, IsReportedBy}
use Rattle.wiz_tool.specs.Environment.{Environment, around_of}
use Rattle.wiz_io.specs.Files.{Files}
use Rattle.wiz_tool.specs.Files.{AreWritten}
use Rattle.wiz_tool.proofs.FileLemmas.{AreWritten-none}

-- nothing is written where no file is to be written and none has changed
pub none_written : (before after : Option Files) → after ≡ before → AreWritten before after [] []
none_written before after same = rw same (AreWritten-none before)

-- a text that is put out, with no file to write
pub put_done : (outcome : TaskOutcome) (before after : Environment) (report : Report) → outcome.files ≡ [] → after.store.files ≡ before.store.files
    → IsPut outcome before.out after.out report → IsCarriedOut outcome before after report
put_done outcome before after report none same put =
    record { files = rw none (none_written before.store.files after.store.files same); put = put }

-- nothing is touched, and the command fails
pub failed : (IsRefusal : Refused → Type 0) (Does : TaskOutcome → Type 0) (before after : Environment) (failure : Failure) → IsUntouched before after
    → IsFailureBy IsRefusal failure → EndsBy IsRefusal Does (around_of before after) (Err failure)
failed IsRefusal Does before after (IsRefused refusal name) untouched is = (untouched, is)
failed IsRefusal Does before after OutOfMemory untouched is = inl untouched

pub command_failed : (task : Task) (before after : Environment) (failure : Failure) → IsUntouched before after
    → IsFailureBy (IsRefusedFor task before after) failure → EndsTask task (around_of before after) (Err failure)
command_failed task before after = failed (IsRefusedFor task before after) (IsDoneFor task before) before after

pub command_short : (task : Task) (before after : Environment) (failure : Failure) → failure ≡ OutOfMemory → IsUntouched before after
    → EndsTask task (around_of before after) (Err failure)
command_short task before after failure is untouched = rw is (inl untouched)

-- what is told from a later moment on, when files were read alone
pub told_from : (outcome : TaskOutcome) (before mid after : Environment) (result : Result Report AllocError) → mid.store.files ≡ before.store.files → mid.store.writes ≡ before.store.writes
    → mid.out ≡ before.out → IsReportedBy outcome (around_of mid after) result → IsReportedBy outcome (around_of before after) result
told_from outcome before mid after (Ok report) files writes out (inl done) =
    inl (record { files = rw files at done.files; put = rw out at done.put })
told_from outcome before mid after (Ok report) files writes out (inr unwritten) =
    inr (record { name = unwritten.name; files = rw files at unwritten.files; risen = rw writes at unwritten.risen; said = rw out at unwritten.said; is_report = unwritten.is_report })
told_from outcome before mid after (Err error) files writes out partly = rw (files, writes, out) at partly

-- the work is done, and its outcome is told
pub done_told : (task : Task) (before after : Environment) (outcome : TaskOutcome) (report : Report) → IsDoneFor task before outcome
    → IsReportedBy outcome (around_of before after) (Ok report) → EndsTask task (around_of before after) (Ok report)
done_told task before after outcome report does told = (outcome, does, told)

pub done_short : (task : Task) (before after : Environment) (outcome : TaskOutcome) (error : AllocError) (failure : Failure) → failure ≡ OutOfMemory
    → IsDoneFor task before outcome → IsReportedBy outcome (around_of before after) (Err error) → EndsTask task (around_of before after) (Err failure)
done_short task before after outcome error failure is does partly = rw is (inr (outcome, does, partly))

-- the text of what is told
pub told_text : (done : Done) (outcome : TaskOutcome) → outcome_written [] done ≡ outcome → done.text ≡ outcome.text
told_text done outcome is = ap (λ (o : TaskOutcome). o.text) is

-- what is told of one outcome is told of an equal one
pub put_same : (one other : TaskOutcome) (before after : ObservedOutput) (report : Report) → one ≡ other → IsPut one before after report → IsPut other before after report
put_same one other before after report same put = subst (λ outcome. IsPut outcome before after report) same put

-- an outcome without files is told by its text alone
pub put_told : (outcome : TaskOutcome) (before after : Environment) (report : Report) → outcome.files ≡ [] → after.store.files ≡ before.store.files
    → IsPut outcome before.out after.out report → IsReportedBy outcome (around_of before after) (Ok report)
put_told outcome before after report none same put = inl (put_done outcome before after report none same put)

pub put_short : (outcome : TaskOutcome) (before after : Environment) (error : AllocError) → outcome.files ≡ [] → after.store.files ≡ before.store.files
    → GrewByPart before.out.bytes after.out.bytes outcome.text → IsReportedBy outcome (around_of before after) (Err error)
put_short outcome before after error none same grew = inr (inl (rw none (none_written before.store.files after.store.files same), grew))

-- a text that is told of a run, with no file to write
pub text_told : (task : Task) (before after : Environment) (outcome : TaskOutcome) (report : Report) → outcome.files ≡ [] → after.store.files ≡ before.store.files
    → IsDoneFor task before outcome → IsPut outcome before.out after.out report → EndsTask task (around_of before after) (Ok report)
text_told task before after outcome report none same does put =
    done_told task before after outcome report does (put_told outcome before after report none same put)

pub text_short : (task : Task) (before after : Environment) (outcome : TaskOutcome) (error : AllocError) (failure : Failure) → failure ≡ OutOfMemory → outcome.files ≡ []
    → after.store.files ≡ before.store.files → IsDoneFor task before outcome → GrewByPart before.out.bytes after.out.bytes outcome.text
    → EndsTask task (around_of before after) (Err failure)
text_short task before after outcome error failure is none same does grew =
    done_short task before after outcome error failure is does (put_short outcome before after error none same grew)
