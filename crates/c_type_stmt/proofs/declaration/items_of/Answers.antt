use Rattle.std.proofs.Common.{◌∷◌, ◌+◌, ◌∙◌, [], ap, drop, false, sym}
use Rattle.c_grammar.specs.StmtView.{comma_list_view, item_view}
use Rattle.c_program.specs.View.{pure_item}
use Rattle.c_scope.specs.Signatures.{listed}
use Rattle.c_scope.specs.Typing.{both}
use Rattle.c_scope.proofs.Lists.{drop_at, drop_past}
use Rattle.c_type_stmt.specs.Declarations.{after_declarators}
use Rattle.c_type_stmt.specs.StmtTyping.{item_typing, items_typing}
use Rattle.c_scope.proofs.Rows.{behind_viewed}
use Rattle.c_scope.proofs.JoinRules.{placed_all, so_far_first, so_far_last, so_far_next}
use Rattle.c_type_stmt.proofs.declaration.items_of.Goals as goal

pub loop-behind-init : goal.loop-behind-init
loop-behind-init c =
    let env = c.args.scope.now in let kind = c.args.kind in let items = c.deref-behind-items.result.now in let more = c.args.items.now.more.items in
    let first = item_typing env kind (item_view c.args.items.now.first) in let whole = items_typing env kind (listed (comma_list_view item_view c.args.items.now)) in
    record {
      typed = so_far_next ◌∷◌ pure_item _ _ _ false _ c.new-typed.result.items _ c.in_ok-first.first first whole (items_typing c.item_of.new.scope kind (behind_viewed item_view items)) whole
          (ap (λ after. both ◌∷◌ first (items_typing after kind (behind_viewed item_view more))) (sym c.in_ok-first.ensures.scope)
          ∙ ap (λ left. both ◌∷◌ first (items_typing c.item_of.new.scope kind (behind_viewed item_view left))) (sym c.deref-behind-items.ensures.value))
          c.in_ok-first.ensures.typed c.in_ok-keep.ensures (so_far_first ◌∷◌ pure_item c.args.best.now _ whole c.new-typed.ensures.items);
      scope = ap (λ left. after_declarators c.item_of.new.scope kind (behind_viewed item_view left)) c.deref-behind-items.ensures.value
          ∙ ap (λ after. after_declarators after kind (behind_viewed item_view more)) c.in_ok-first.ensures.scope;
    }

pub loop-behind-preserved : goal.loop-behind-preserved
loop-behind-preserved c =
    let env = c.loop-behind.scope in let kind = c.args.kind in let items = c.deref-behind-items.result.now in let i = c.loop-behind.behind-index in
    let next = c.item_of-in-loop-behind.new.scope in let one = item_typing env kind (item_view c.behind-item.result.item) in
    let at = drop_at items i c.behind-item.result c.loop-behind-test.true c.behind-item.is in
    record {
      typed = so_far_next ◌∷◌ pure_item _ _ _ c.loop-behind.faulty _ c.loop-behind.typed.items _ c.in_ok-one.one one
          (items_typing env kind (behind_viewed item_view (drop i items))) (items_typing next kind (behind_viewed item_view (drop (i + 1) items)))
          (items_typing c.args.scope.now kind (listed (comma_list_view item_view c.args.items.now)))
          (ap (λ left. items_typing env kind (behind_viewed item_view left)) at
          ∙ ap (λ after. both ◌∷◌ one (items_typing after kind (behind_viewed item_view (drop (i + 1) items)))) (sym c.in_ok-one.ensures.scope))
          c.in_ok-one.ensures.typed c.in_ok-keep-2.ensures c.loop-behind.invariant.typed;
      scope = ap (λ after. after_declarators after kind (behind_viewed item_view (drop (i + 1) items))) c.in_ok-one.ensures.scope
          ∙ sym (ap (λ left. after_declarators env kind (behind_viewed item_view left)) at) ∙ c.loop-behind.invariant.scope;
    }

pub returns-clause-typed : goal.returns-clause-typed
returns-clause-typed c =
    let env = c.loop-behind.scope in let kind = c.args.kind in let items = c.deref-behind-items.result.now in let i = c.loop-behind.behind-index in
    so_far_last ◌∷◌ [] (λ ys. ys) pure_item _ _ _ _ (items_typing env kind (behind_viewed item_view (drop i items)))
    (items_typing c.args.scope.now kind (listed (comma_list_view item_view c.args.items.now))) _ placed_all
    (ap (λ left. items_typing env kind (behind_viewed item_view left)) (drop_past items i c.loop-behind-test.false)) c.all.ensures c.loop-behind.invariant.typed
