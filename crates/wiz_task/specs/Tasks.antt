-- What a command asks for, and what it is refused by.
use Rattle.clap.specs.Words.{Text}
use Rattle.std.specs.Prelude.{List, [], ◌≡◌, ◌⊎◌}
use Rattle.wiz_task.specs.Requirements.{IsFirstUnmet, Requirement}
use Rattle.wiz_io.specs.Files.{ObservedFiles}
use Rattle.wiz_tool.specs.Environment.{Environment}
use Rattle.wiz_tool.specs.Inputs.{AreHeld, Input, IsFirstUnread, Refused}
use Rattle.wiz_tool.specs.Outcomes.{TaskOutcome}

-- the input files, in the order in which they are read; what is required of their texts, in this order; and what is done with them
pub record Task : Type 1 where
  pub inputs : List Input
  pub requirements : List Text → List Requirement
  pub Does : List Text → TaskOutcome → Type 0

-- an input file is not read, or all are and what they hold is refused: the first of these in order
abbrev pub IsRefusedBy : ObservedFiles → ObservedFiles → List Input → (List Text → List Requirement) → Refused → Type 0
IsRefusedBy before after inputs requirements refused =
    IsFirstUnread before after inputs refused
    ⊎ ((texts : List Text) × AreHeld before.files inputs texts × IsFirstUnmet (requirements texts) refused.refusal × (refused.name ≡ []))

-- so for what a command asks for
abbrev pub IsRefusedFor : Task → Environment → Environment → Refused → Type 0
IsRefusedFor task before after refused = IsRefusedBy before.store after.store task.inputs task.requirements refused

-- it is done, with what its input files hold
abbrev pub IsDoneFor : Task → Environment → TaskOutcome → Type 0
IsDoneFor task before outcome =
    (texts : List Text) × AreHeld before.store.files task.inputs texts × task.Does texts outcome
