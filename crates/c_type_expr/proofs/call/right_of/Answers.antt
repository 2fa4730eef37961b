use Rattle.c_grammar.specs.View.{view}
use Rattle.c_program.specs.Tree as pure
use Rattle.c_program.specs.View.{pure_expr, pure_right}
use Rattle.c_scope.proofs.Gives.{walked_onto}
use Rattle.c_type_expr.specs.ExprTyping.{wanted_typing}
use Rattle.c_type_expr.proofs.call.right_of.Goals as goal

pub returns-in-Value : goal.returns-in-Value
returns-in-Value c =
    rw c.in-Value.is
    (walked_onto c.args.best.now c.wanted_of.new.best pure_expr pure_right pure.value (wanted_typing c.args.scope.now c.args.wanted (view c.in-Value.e)) c.wanted_of.result c.value.result
    c.wanted_of.ensures c.value.ensures)
