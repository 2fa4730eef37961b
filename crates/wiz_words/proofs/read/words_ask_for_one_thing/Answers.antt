use Rattle.wiz_words.proofs.OneCommand.{one_command}
use Rattle.wiz_words.proofs.read.words_ask_for_one_thing.Goals as goal

pub returns : goal.returns
returns c = one_command
