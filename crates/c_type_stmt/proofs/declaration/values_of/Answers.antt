use Rattle.std.proofs.Common.{◌∷◌, ◌+◌, [], ap, drop, false, sym}
use Rattle.c_grammar.specs.StmtView.{comma_list_view}
use Rattle.c_grammar.specs.View.{view}
use Rattle.c_program.specs.View.{pure_expr}
use Rattle.c_scope.specs.Signatures.{listed}
use Rattle.c_scope.specs.Typing.{both}
use Rattle.c_scope.proofs.Lists.{drop_at, drop_past}
use Rattle.c_type_expr.specs.ExprTyping.{int_typing}
use Rattle.c_type_stmt.specs.StmtTyping.{values_typing}
use Rattle.c_scope.proofs.Rows.{behind_viewed}
use Rattle.c_scope.proofs.JoinRules.{placed_all, so_far_first, so_far_last, so_far_next}
use Rattle.c_type_stmt.proofs.declaration.values_of.Goals as goal

pub loop-behind-init : goal.loop-behind-init
loop-behind-init c =
    let env = c.args.scope.now in let first = int_typing env (view c.args.values.now.first) in let whole = values_typing env (listed (comma_list_view view c.args.values.now)) in
    so_far_next ◌∷◌ pure_expr _ _ _ false _ c.new-typed.result.items _ c.in_ok-first.first first whole (values_typing env (behind_viewed view c.deref-behind-items.result.now)) whole
    (ap (λ more. both ◌∷◌ first (values_typing env (behind_viewed view more))) (sym c.deref-behind-items.ensures.value))
    c.in_ok-first.ensures c.in_ok-keep.ensures (so_far_first ◌∷◌ pure_expr c.args.best.now _ whole c.new-typed.ensures.items)

pub loop-behind-preserved : goal.loop-behind-preserved
loop-behind-preserved c =
    let env = c.args.scope.now in let items = c.deref-behind-items.result.now in let i = c.loop-behind.behind-index in
    so_far_next ◌∷◌ pure_expr _ _ _ c.loop-behind.faulty _ c.loop-behind.typed.items _ c.in_ok-one.one (int_typing env (view c.behind-item.result.item))
    (values_typing env (behind_viewed view (drop i items))) (values_typing env (behind_viewed view (drop (i + 1) items))) (values_typing env (listed (comma_list_view view c.args.values.now)))
    (ap (λ left. values_typing env (behind_viewed view left)) (drop_at items i c.behind-item.result c.loop-behind-test.true c.behind-item.is))
    c.in_ok-one.ensures c.in_ok-keep-2.ensures c.loop-behind.invariant

pub returns : goal.returns
returns c =
    let env = c.args.scope.now in let items = c.deref-behind-items.result.now in let i = c.loop-behind.behind-index in
    so_far_last ◌∷◌ [] (λ ys. ys) pure_expr _ _ _ _ (values_typing env (behind_viewed view (drop i items))) (values_typing env (listed (comma_list_view view c.args.values.now))) _ placed_all
    (ap (λ left. values_typing env (behind_viewed view left)) (drop_past items i c.loop-behind-test.false)) c.all.ensures c.loop-behind.invariant
