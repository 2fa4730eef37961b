use Rattle.std.proofs.Common.{◌∷◌, drop, map}
use Rattle.c_grammar.specs.StmtView.{argument_view}
use Rattle.c_program.specs.View.{pure_expr}
use Rattle.c_type_expr.specs.CallTyping.{numbers_typing}
use Rattle.c_scope.proofs.JoinRules.{SoFar}
use Rattle.c_type_expr.proofs.call.numbers_of.Given as goal

abbrev pub invariant-loop-one : goal.invariant-loop-one
invariant-loop-one l =
    SoFar ◌∷◌ pure_expr l.initial.best l.best l.faulty l.numbers.items (numbers_typing l.scope (map (λ one. argument_view one.now) (drop l.one-index l.given)))
    (numbers_typing l.scope (map (λ one. argument_view one.now) l.given))
