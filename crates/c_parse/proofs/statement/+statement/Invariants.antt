use Rattle.std.proofs.Common.{◌+◌, ◌*◌, length, map}
use Rattle.c_grammar.specs.declared.terminal.Symbol.TheVariants.{CloseBrace}
use Rattle.c_grammar.specs.Symbols.{isnt}
use Rattle.c_grammar.specs.StmtView.{part_view}
use Rattle.c_grammar.specs.StmtReading.{part_at}
use Rattle.c_parse.proofs.Loops.{SoFar}
use Rattle.c_parse.proofs.statement.+statement.Given as goal

abbrev pub decreases-parts : goal.decreases-parts
decreases-parts l = 8 * l.left + 7

abbrev pub decreases-part : goal.decreases-part
decreases-part l = 8 * l.left + 6

abbrev pub decreases-stmt : goal.decreases-stmt
decreases-stmt l = 8 * l.left + 5

abbrev pub decreases-body : goal.decreases-body
decreases-body l = 8 * l.left + 4

abbrev pub decreases-block_statement : goal.decreases-block_statement
decreases-block_statement l = 8 * l.left + 2

abbrev pub decreases-block : goal.decreases-block
decreases-block l = 8 * l.left + 8

abbrev pub decreases-if_statement : goal.decreases-if_statement
decreases-if_statement l = 8 * l.left + 3

abbrev pub decreases-otherwise : goal.decreases-otherwise
decreases-otherwise l = 8 * l.left + 2

abbrev pub decreases-inner : goal.decreases-inner
decreases-inner l = 8 * l.left + 1

abbrev pub decreases-while_statement : goal.decreases-while_statement
decreases-while_statement l = 8 * l.left + 2

abbrev pub decreases-do_statement : goal.decreases-do_statement
decreases-do_statement l = 8 * l.left + 2

abbrev pub decreases-for_statement : goal.decreases-for_statement
decreases-for_statement l = 8 * l.left + 2

abbrev pub invariant-parts-loop-alloc : goal.invariant-parts-loop-alloc
invariant-parts-loop-alloc l = SoFar (isnt CloseBrace) (part_at l.left) l.terminals (map part_view l.found.items) l.rest

abbrev pub decreases-parts-loop-alloc : goal.decreases-parts-loop-alloc
decreases-parts-loop-alloc l = length l.rest
