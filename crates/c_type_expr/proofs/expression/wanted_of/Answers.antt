use Rattle.c_grammar.specs.View.{view}
use Rattle.c_program.specs.View.{pure_expr}
use Rattle.c_scope.specs.Kinds.{first_token, kind_of}
use Rattle.c_type_expr.specs.ExprTyping.{expr_typing}
use Rattle.c_type_expr.proofs.WalkRules.{kind_rule}
use Rattle.c_type_expr.proofs.expression.wanted_of.Goals as goal

pub returns : goal.returns
returns c =
    kind_rule pure_expr c.args.wanted c.kind_of.result (kind_of c.args.scope.now (view c.args.e.now)) c.first_token.result (first_token (view c.args.e.now))
    (expr_typing c.args.scope.now (view c.args.e.now)) c.args.best.now c.expr_of.new.best c.of_kind.new.best c.in_ok-found.found c.of_kind.result c.in_ok-found.ensures
    c.kind_of.ensures c.first_token.ensures c.of_kind.ensures.best c.of_kind.ensures.form
