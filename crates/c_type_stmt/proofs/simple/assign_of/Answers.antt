use Rattle.std.proofs.Common.{ap, ◌∙◌, sym, subst}
use Rattle.c_grammar.specs.StmtView.{right_view}
use Rattle.c_grammar.specs.View.{place_view}
use Rattle.c_names.specs.declared.kind.VariableKind.TheVariants.{Int}
use Rattle.c_program.specs.Tree as pure
use Rattle.c_program.specs.View.{pure_place, pure_right, pure_simple}
use Rattle.c_scope.specs.Typing.{both}
use Rattle.c_scope.specs.Walks.{Walked}
use Rattle.c_scope.specs.declared.meaning.ExprKind.TheVariants.{Of}
use Rattle.c_scope.proofs.JoinRules.{walked_pair}
use Rattle.c_type_expr.specs.CallTyping.{right_typing}
use Rattle.c_type_stmt.specs.Assignments.{lvalue_takes}
use Rattle.c_type_stmt.specs.StmtTyping.{assign_typing, goal_typing, int_goal_typing}
use Rattle.c_type_stmt.proofs.simple.assign_of.Goals as goal

pub returns-then-is_plain_assign : goal.returns-then-is_plain_assign
returns-then-is_plain_assign c =
    let env = c.args.scope.now in let place = place_view c.args.place.now in let right = right_view c.args.right.now in
    subst (λ plain. Walked pure_simple c.args.best.now c.right_of.new.best c.set.result (assign_typing env plain place c.args.operator right))
    (sym c.if-is_plain_assign.true ∙ c.is_plain_assign.ensures)
    (subst (λ takes. Walked pure_simple c.args.best.now c.right_of.new.best c.set.result (both pure.set (goal_typing env place) (right_typing env takes right)))
    (c.lvalue_takes-takes.ensures ∙ ap lvalue_takes c.lvalue_kind.ensures)
    (walked_pair _ _ _ pure_place pure_right pure_simple pure.set (goal_typing env place) (right_typing env c.lvalue_takes-takes.result right)
    _ _ _ _ c.goal_of.ensures c.right_of.ensures c.both.ensures c.set.ensures))

pub returns-else-is_plain_assign : goal.returns-else-is_plain_assign
returns-else-is_plain_assign c =
    let env = c.args.scope.now in let place = place_view c.args.place.now in let right = right_view c.args.right.now in
    subst (λ plain. Walked pure_simple c.args.best.now c.right_of-else-is_plain_assign.new.best c.update.result (assign_typing env plain place c.args.operator right))
    (sym c.if-is_plain_assign.false ∙ c.is_plain_assign.ensures)
    (subst (λ operator. Walked pure_simple c.args.best.now c.right_of-else-is_plain_assign.new.best c.update.result
    (both (λ goal value. pure.update goal operator value) (int_goal_typing env place) (right_typing env (Of Int) right))) c.update_of.ensures
    (walked_pair _ _ _ pure_place pure_right pure_simple (λ goal value. pure.update goal c.update_of.result value) (int_goal_typing env place) (right_typing env (Of Int) right)
    _ _ _ _ c.int_goal_of.ensures c.right_of-else-is_plain_assign.ensures c.both-else-is_plain_assign.ensures c.update.ensures))
