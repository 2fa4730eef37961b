-- The end of arguments, before a refusal is told.
use Rattle.std.specs.Prelude.{◌≡◌, ◌<◌, ◌⊎◌, List, [], Result}
use Rattle.clap.specs.Words.{Text}
use Rattle.wiz_words.specs.declared.command.Command.{Command}
use Rattle.wiz_words.specs.declared.command.Command.TheVariants.{Advise}
use Rattle.wiz_tool.specs.declared.failure.Failure.{Failure}
use Rattle.wiz_tool.specs.declared.refusal.Refusal.TheVariants.{Words}
use Rattle.wiz_tool.specs.declared.report.Report.{Report}
use Rattle.wiz_cli.specs.Commands.{task_of}
use Rattle.wiz_tool.specs.Inputs.{Refused}
use Rattle.wiz_cli.specs.Names.{Asking}
use Rattle.wiz_task.specs.Tasks.{IsDoneFor, IsRefusedFor}
use Rattle.wiz_task.specs.inside.Ends.{EndsBy}
use Rattle.wiz_tool.specs.Environment.{Around, Environment}

-- the refusal of arguments that ask for nothing
abbrev pub refused_words : Refused
refused_words = record { refusal = Words; name = [] }

-- why arguments are refused: they ask for nothing, or what they ask for is refused
abbrev pub IsRefusedForWords : Asking → List Text → Environment → Environment → Refused → Type 0
IsRefusedForWords Ask words before after refused =
    (((command : Command Text) → Ask words command → ⊥) × (refused ≡ refused_words))
    ⊎ ((command : Command Text) × Ask words command × IsRefusedFor (task_of command) before after refused)

-- those that ask for nothing are refused
abbrev pub EndsWords : Asking → List Text → Around → Result Report Failure → Type 0
EndsWords Ask words call result =
    EndsBy (IsRefusedForWords Ask words call.before call.after)
    (λ outcome. (command : Command Text) × Ask words command × IsDoneFor (task_of command) call.before outcome) call result

-- a block of an advice may have a rank
abbrev pub AllowsBlocks : Command Text → Type 0
AllowsBlocks (Advise run most) = 0 < most
AllowsBlocks command = Unit {0}
