use Rattle.std.proofs.Common.{◌+◌, ◌∷◌, [], Bor, List, drop, map, ap}
use Rattle.c_grammar.specs.StmtView.{argument_view}
use Rattle.c_grammar.specs.declared.statement.Argument.{Argument}
use Rattle.c_names.specs.declared.kind.VariableKind.TheVariants.{Int}
use Rattle.c_program.specs.View.{pure_expr}
use Rattle.c_scope.specs.declared.meaning.ExprKind.TheVariants.{Of}
use Rattle.c_scope.proofs.JoinRules.{placed_all, so_far_first, so_far_last, so_far_next}
use Rattle.c_scope.proofs.Lists.{drop_at, drop_past}
use Rattle.c_type_expr.specs.CallTyping.{numbers_typing}
use Rattle.c_type_expr.specs.ExprTyping.{value_typing}
use Rattle.c_type_expr.proofs.call.numbers_of.Goals as goal

pub loop-one-init : goal.loop-one-init
loop-one-init c =
    so_far_first ◌∷◌ pure_expr c.args.best.now c.new-numbers.result.items
    (numbers_typing c.args.scope.now (map (λ (one : Bor Argument). argument_view one.now) c.args.given.now)) c.new-numbers.ensures.items

pub loop-one-preserved : goal.loop-one-preserved
loop-one-preserved c =
    let left = λ (rest : List (Bor Argument)). numbers_typing c.args.scope.now (map (λ (one : Bor Argument). argument_view one.now) rest) in
    so_far_next ◌∷◌ pure_expr c.args.best.now c.loop-one.best c.value_of.new.best c.loop-one.faulty c.keep.new.faulty c.loop-one.numbers.items c.keep.new.forms.items
    c.in_ok-number.number (value_typing c.args.scope.now (Of Int) (argument_view c.one-item.result.now)) (left (drop c.loop-one.one-index c.args.given.now))
    (left (drop (c.loop-one.one-index + 1) c.args.given.now)) (left c.args.given.now)
    (ap left (drop_at c.args.given.now c.loop-one.one-index c.one-item.result c.loop-one-test.true c.one-item.is))
    c.in_ok-number.ensures c.in_ok-keep.ensures c.loop-one.invariant

pub returns : goal.returns
returns c =
    let left = λ (rest : List (Bor Argument)). numbers_typing c.args.scope.now (map (λ (one : Bor Argument). argument_view one.now) rest) in
    so_far_last ◌∷◌ [] (λ all. all) pure_expr c.args.best.now c.loop-one.best c.loop-one.faulty c.loop-one.numbers.items (left (drop c.loop-one.one-index c.args.given.now))
    (left c.args.given.now) c.all.result placed_all (ap left (drop_past c.args.given.now c.loop-one.one-index c.loop-one-test.false)) c.all.ensures c.loop-one.invariant
