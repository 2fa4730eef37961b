use Rattle.std.proofs.Common.{◌≡◌, ℕ, List, codes}
use Rattle.clap.specs.Words.{Row, Text}
use Rattle.wiz_words.specs.declared.command.Command.{Command}
use Rattle.wiz_words.specs.declared.command.Command.TheVariants.{Explore}
use Rattle.wiz_words.specs.declared.command.Verb.TheVariants as verb
use Rattle.wiz_words.specs.declared.limits.TheConstants.{FEWEST_POLLS, FEWEST_STATES, MOST_POLLS, MOST_STATES, USUAL_POLLS, USUAL_STATES}
use Rattle.wiz_words.specs.Values.{IsNumberOr, rows_found}
use Rattle.wiz_words.specs.Words.{AreWordsOf, verb_of}
use Rattle.wiz_words.proofs.read.explore_from.Goals as goal

-- without a number of states there is no search to ask for
no_states : (given : List Row) → ((number : ℕ) → IsNumberOr given (codes "most") FEWEST_STATES MOST_STATES USUAL_STATES number → ⊥) → (command : Command Text)
    → verb_of command ≡ verb.Explore → AreWordsOf given command → ⊥
no_states given none (Explore run prefix most polls) same says = none most says.2
no_states given none command same says = absurd (cc)

-- nor without a number of looks
no_polls : (given : List Row) → ((number : ℕ) → IsNumberOr given (codes "polls") FEWEST_POLLS MOST_POLLS USUAL_POLLS number → ⊥) → (command : Command Text)
    → verb_of command ≡ verb.Explore → AreWordsOf given command → ⊥
no_polls given none (Explore run prefix most polls) same says = none polls says.3
no_polls given none command same says = absurd (cc)

pub returns-in_err-most : goal.returns-in_err-most
returns-in_err-most c = rw c.from_residual-in_err-most.ensures (no_states (rows_found c.args.matches.now) c.in_err-most.ensures)

pub returns-in_err-polls : goal.returns-in_err-polls
returns-in_err-polls c = rw c.from_residual-in_err-polls.ensures (no_polls (rows_found c.args.matches.now) c.in_err-polls.ensures)
