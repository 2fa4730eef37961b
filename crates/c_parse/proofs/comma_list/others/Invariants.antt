use Rattle.std.proofs.Common.{length, map}
use Rattle.c_grammar.specs.declared.terminal.Symbol.TheVariants.{Comma}
use Rattle.c_grammar.specs.Symbols.{is}
use Rattle.c_grammar.specs.StmtReading.{read_after_comma}
use Rattle.c_parse.proofs.Loops.{SoFar}
use Rattle.c_parse.proofs.comma_list.others.Given as goal

abbrev pub invariant-loop-alloc : goal.invariant-loop-alloc
invariant-loop-alloc g l =
    SoFar (is Comma) (read_after_comma (g.T.InCommaList.reading l.left)) l.terminals (map (λ one. (one.comma, g.T.InCommaList.view one.item)) l.found.items) l.rest

abbrev pub decreases-loop-alloc : goal.decreases-loop-alloc
decreases-loop-alloc g l = length l.rest
