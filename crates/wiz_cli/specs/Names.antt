-- Names of what definitions speak of.
use Rattle.std.specs.Prelude.{List}
use Rattle.clap.specs.Words.{Text}
use Rattle.wiz_words.specs.declared.command.Command.{Command}

-- which arguments ask for which command
abbrev pub Asking : Type 1
Asking = List Text → Command Text → Type 0
