use Rattle.std.proofs.Common.{◌∷◌, refl}
use Rattle.c_grammar.specs.StmtView.{argument_view}
use Rattle.c_type_expr.proofs.CallRules.{arguments_all, arguments_first, arguments_more, behind_commas}
use Rattle.c_type_expr.proofs.call.items_of.Goals as goal

pub loop-behind-init : goal.loop-behind-init
loop-behind-init c =
    arguments_first c.new-given.result.items c.push.new.self.items _ c.deref-behind-items.result.now c.new-given.ensures.items c.in_ok-push.ensures.items

pub loop-behind-preserved : goal.loop-behind-preserved
loop-behind-preserved c =
    arguments_more c.loop-behind.given.items c.deref-behind-items.result.now c.loop-behind.behind-index _ c.behind-item.result c.push-in-loop-behind.new.self.items
    (argument_view c.args.list.now.first ∷ behind_commas c.deref-behind-items.result.now) c.loop-behind-test.true c.behind-item.is refl c.in_ok-push-2.ensures.items c.loop-behind.invariant

pub returns : goal.returns
returns c =
    arguments_all c.loop-behind.given.items c.args.list.now c.deref-behind-items.result.now c.loop-behind.behind-index c.loop-behind-test.false c.deref-behind-items.ensures.value c.loop-behind.invariant
