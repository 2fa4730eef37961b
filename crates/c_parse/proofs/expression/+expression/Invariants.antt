use Rattle.std.proofs.Common.{◌==◌, ◌+◌, ◌-◌, ◌*◌, length, map}
use Rattle.c_grammar.specs.View.{piece}
use Rattle.c_grammar.specs.Symbols.{level_of}
use Rattle.c_grammar.specs.Reading.{read_binary, expr_at, read_link, read_unary}
use Rattle.c_parse.proofs.Loops.{SoFar}
use Rattle.c_parse.proofs.expression.+expression.Given as goal

abbrev pub decreases-expr : goal.decreases-expr
decreases-expr l = 40 * l.left + 39

abbrev pub decreases-choice : goal.decreases-choice
decreases-choice l = 40 * l.left + 38

abbrev pub decreases-branches : goal.decreases-branches
decreases-branches l = 40 * l.left + 1

abbrev pub decreases-deeper : goal.decreases-deeper
decreases-deeper l = 40 * l.left

abbrev pub decreases-bin : goal.decreases-bin
decreases-bin l = 40 * l.left + 3 * l.most + 5

abbrev pub decreases-links : goal.decreases-links
decreases-links l = 40 * l.left + 3 * l.most + 4

abbrev pub decreases-link : goal.decreases-link
decreases-link l = 40 * l.left + 3 * l.most + 3

abbrev pub decreases-unary : goal.decreases-unary
decreases-unary l = 40 * l.left + 2

abbrev pub decreases-paren : goal.decreases-paren
decreases-paren l = 40 * l.left + 1

abbrev pub decreases-signed : goal.decreases-signed
decreases-signed l = 40 * l.left + 1

abbrev pub decreases-place : goal.decreases-place
decreases-place l = 40 * l.left + 1

abbrev pub invariant-links-loop-alloc : goal.invariant-links-loop-alloc
invariant-links-loop-alloc l =
    SoFar (λ x. level_of x == l.most) (read_link (read_binary (read_unary (expr_at (l.left - 1))) (l.most - 1)) l.most) l.terminals (map piece l.found.items) l.rest

abbrev pub decreases-links-loop-alloc : goal.decreases-links-loop-alloc
decreases-links-loop-alloc l = length l.rest
