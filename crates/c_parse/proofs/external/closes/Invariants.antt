use Rattle.std.proofs.Common.{◌-◌}
use Rattle.c_grammar.specs.declared.terminal.Symbol.TheVariants.{CloseParen}
use Rattle.c_grammar.specs.Reading.{expect}
use Rattle.c_parse.proofs.Times.{TimesSoFar}
use Rattle.c_parse.proofs.external.closes.Given as goal

abbrev pub invariant-loop : goal.invariant-loop
invariant-loop l = TimesSoFar (expect CloseParen) l.count l.terminals l.found.items (l.count - l.counter) l.rest
