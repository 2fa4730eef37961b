use Rattle.std.proofs.Common.{length}
use Rattle.c_grammar.specs.declared.terminal.Symbol.TheVariants.{OpenParen}
use Rattle.c_grammar.specs.Symbols.{is}
use Rattle.c_grammar.specs.Reading.{expect}
use Rattle.c_parse.proofs.Loops.{SoFar}
use Rattle.c_parse.proofs.external.opens.Given as goal

abbrev pub invariant-loop-rest : goal.invariant-loop-rest
invariant-loop-rest l = SoFar (is OpenParen) (expect OpenParen) l.terminals l.found.items l.rest

abbrev pub decreases-loop-rest : goal.decreases-loop-rest
decreases-loop-rest l = length l.rest
