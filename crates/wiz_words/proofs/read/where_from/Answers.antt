use Rattle.std.proofs.Common.{◌≡◌, ℕ, List, codes}
use Rattle.clap.specs.Words.{Row, Text}
use Rattle.wiz_words.specs.declared.command.Command.{Command}
use Rattle.wiz_words.specs.declared.command.Command.TheVariants.{Where}
use Rattle.wiz_words.specs.declared.command.Verb.TheVariants as verb
use Rattle.wiz_words.specs.Values.{IsNameIn, rows_found}
use Rattle.wiz_words.specs.Words.{AreWordsOf, verb_of}
use Rattle.wiz_words.proofs.read.where_from.Goals as goal

-- without a name there is no message to ask for
unnamed : (given : List Row) → ((name : ℕ × ℕ) → IsNameIn given (codes "MESSAGE") name → ⊥) → (command : Command Text) → verb_of command ≡ verb.Where
    → AreWordsOf given command → ⊥
unnamed given none (Where replay source start) same says = none (source, start) says.1
unnamed given none command same says = absurd (cc)

pub returns-in_err-source : goal.returns-in_err-source
returns-in_err-source c = rw c.from_residual-in_err-source.ensures (unnamed (rows_found c.args.matches.now) c.in_err-source.ensures)
