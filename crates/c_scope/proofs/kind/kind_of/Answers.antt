use Rattle.c_grammar.proofs.Viewed.{view-chain, view-choice, view-field, view-number, view-paren, view-read, view-unary}
use Rattle.c_scope.proofs.kind.kind_of.Goals as goal

pub returns-in-Read : goal.returns-in-Read
returns-in-Read c = rw (c.in-Read.is, view-read) c.place_kind.ensures

pub returns-in-Number : goal.returns-in-Number
returns-in-Number c = rw (c.in-Number.is, view-number)

pub returns-in-Field : goal.returns-in-Field
returns-in-Field c = rw (c.in-Field.is, view-field)

pub returns-in-Paren : goal.returns-in-Paren
returns-in-Paren c = rw (c.in-Paren.is, view-paren)

pub returns-in-Unary : goal.returns-in-Unary
returns-in-Unary c = rw (c.in-Unary.is, view-unary)

pub returns-in-Chain : goal.returns-in-Chain
returns-in-Chain c = rw (c.in-Chain.is, view-chain)

pub returns-in-Choice : goal.returns-in-Choice
returns-in-Choice c = rw (c.in-Choice.is, view-choice)
