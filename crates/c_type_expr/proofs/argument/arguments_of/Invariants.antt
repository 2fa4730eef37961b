use Rattle.std.proofs.Common.{◌∷◌, drop}
use Rattle.c_program.specs.View.{pure_argument}
use Rattle.c_scope.proofs.JoinRules.{SoFar}
use Rattle.c_type_expr.specs.ExprTyping.{arguments_typing}
use Rattle.c_type_expr.proofs.ArgumentRules.{given_view}
use Rattle.c_type_expr.proofs.argument.arguments_of.Given as goal

abbrev pub invariant-loop-place : goal.invariant-loop-place
invariant-loop-place l =
    SoFar ◌∷◌ pure_argument l.fn.best l.best l.faulty l.forms.items (arguments_typing l.scope (drop l.place l.takes) (given_view (drop l.place l.given)))
    (arguments_typing l.scope l.takes (given_view l.given))
