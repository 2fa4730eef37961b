use Rattle.c_parse.specs.Terminals.{spellings}
use Rattle.c_parse.proofs.terminals.symbol_spelled.Goals as goal

pub returns : goal.returns
unfolding spellings
returns c = c.symbol_among.ensures
