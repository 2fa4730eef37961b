use Rattle.std.proofs.Common.{◌∷◌, ◌+◌, [], drop, get_or}
use Rattle.c_grammar.specs.StmtView.{argument_view}
use Rattle.c_names.specs.declared.function.ArgumentKind.TheVariants.{Number}
use Rattle.c_program.specs.View.{pure_argument}
use Rattle.c_scope.proofs.JoinRules.{placed_all, so_far_last, so_far_next}
use Rattle.c_type_expr.specs.ExprTyping.{argument_typing, arguments_typing}
use Rattle.c_type_expr.proofs.ArgumentRules.{arguments_left, given_view, no_arguments_left}
use Rattle.c_type_expr.proofs.argument.arguments_of.Goals as goal

pub loop-place-preserved : goal.loop-place-preserved
loop-place-preserved c =
    let env = c.args.scope.now in let takes = c.args.takes.now in let given = c.args.given.now in let i = c.loop-place.place in
    so_far_next ◌∷◌ pure_argument c.args.best.now c.loop-place.best c.argument_of.new.best c.loop-place.faulty c.keep.new.faulty c.loop-place.forms.items c.keep.new.forms.items
    c.in_ok-found.found (argument_typing env (get_or takes i Number) (argument_view c.index-given-place.result.now))
    (arguments_typing env (drop i takes) (given_view (drop i given))) (arguments_typing env (drop (i + 1) takes) (given_view (drop (i + 1) given)))
    (arguments_typing env takes (given_view given))
    (arguments_left env takes given i Number c.index-given-place.result (rw c.min-place-end.ensures at c.loop-place-test.true) c.index-given-place.is) c.in_ok-found.ensures
    c.in_ok-keep.ensures c.loop-place.invariant

pub returns : goal.returns
returns c =
    let env = c.args.scope.now in let takes = c.args.takes.now in let given = c.args.given.now in let i = c.loop-place.place in
    so_far_last ◌∷◌ [] (λ forms. forms) pure_argument c.args.best.now c.loop-place.best c.loop-place.faulty c.loop-place.forms.items
    (arguments_typing env (drop i takes) (given_view (drop i given))) (arguments_typing env takes (given_view given)) c.all.result placed_all
    (no_arguments_left env takes given i (rw c.min-place-end.ensures at c.loop-place-test.false)) c.all.ensures c.loop-place.invariant
