use Rattle.c_lex.specs.declared.fault.Why.TheVariants.{WrongType}
use Rattle.c_grammar.specs.View.{view}
use Rattle.c_scope.specs.Kinds.{first_token}
use Rattle.c_type_expr.specs.ExprTyping.{expr_typing}
use Rattle.c_type_expr.proofs.ArgumentRules.{misfit_rule}
use Rattle.c_type_expr.proofs.argument.misfit.Goals as goal

pub returns : goal.returns
returns g c =
    misfit_rule (expr_typing c.args.scope.now (view c.args.e.now)) c.args.best.now c.expr_of.new.best c.refused.new.best _ c.refused.result c.first_token.result
    (first_token (view c.args.e.now)) WrongType c.in_ok-expr_of.ensures c.refused.ensures c.first_token.ensures
