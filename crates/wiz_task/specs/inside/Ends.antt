-- The end of a command, before a refusal is told.
use Rattle.std.specs.Prelude.{◌⊎◌, Result, Ok, Err}
use Rattle.wiz_tool.specs.declared.failure.Failure.{Failure}
use Rattle.wiz_tool.specs.declared.failure.Failure.TheVariants.{Refused as IsRefused, OutOfMemory}
use Rattle.wiz_tool.specs.declared.report.Report.{Report}
use Rattle.wiz_tool.specs.Outcomes.{IsCarriedOut, IsPartlyDone, IsUntouched, IsUnwritten, TaskOutcome}
use Rattle.wiz_tool.specs.Inputs.{Refused}
use Rattle.wiz_tool.specs.Environment.{Around}
use Rattle.wiz_task.specs.Tasks.{IsDoneFor, IsRefusedFor, Task}

-- it is refused, or done and told; or memory was out
abbrev pub EndsBy : (Refused → Type 0) → (TaskOutcome → Type 0) → Around → Result Report Failure → Type 0
EndsBy IsRefusal Does call (Ok report) =
    (outcome : TaskOutcome) × Does outcome × (IsCarriedOut outcome call.before call.after report ⊎ IsUnwritten outcome call.before call.after report)
EndsBy IsRefusal Does call (Err (IsRefused refusal name)) =
    IsUntouched call.before call.after × IsRefusal (record { refusal = refusal; name = name.now })
EndsBy IsRefusal Does call (Err OutOfMemory) =
    IsUntouched call.before call.after ⊎ ((outcome : TaskOutcome) × Does outcome × IsPartlyDone outcome call.before call.after)

-- the end of what a command asks for
abbrev pub EndsTask : Task → Around → Result Report Failure → Type 0
EndsTask task call result = EndsBy (IsRefusedFor task call.before call.after) (IsDoneFor task call.before) call result
