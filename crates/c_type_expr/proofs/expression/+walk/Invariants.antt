use Rattle.std.proofs.Common.{drop, map}
use Rattle.c_grammar.specs.View.{links_from, piece}
use Rattle.c_program.specs.View.{pure_link}
use Rattle.c_scope.proofs.JoinRules.{SoFar}
use Rattle.c_type_expr.specs.ExprTyping.{links_typing}
use Rattle.c_type_expr.proofs.WalkRules.{before}
use Rattle.c_type_expr.proofs.expression.+walk.Given as goal

abbrev pub invariant-links_of-loop-link : goal.invariant-links_of-loop-link
invariant-links_of-loop-link l =
    SoFar before pure_link l.fn.best l.best l.faulty l.typed.items (links_typing l.scope l.kind l.left_at (links_from (map piece (drop l.link-index l.links))))
    (links_typing l.scope l.fn.left l.left_at (links_from (map piece l.links)))
