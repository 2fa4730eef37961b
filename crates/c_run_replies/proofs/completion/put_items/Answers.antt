use Rattle.std.proofs.Common.{◌∙◌, ap, arith}
use Rattle.std.proofs.lemmas.List.{drop_all}
use Rattle.c_program.specs.Performing.{completing_of, put_items}
use Rattle.c_run_replies.proofs.CompletionLaws.{item_put-left, items-next, items-trap}
use Rattle.c_run_replies.proofs.completion.put_items.Goals as goal

pub returns-then-not-branch-clause-comes : goal.returns-then-not-branch-clause-comes
returns-then-not-branch-clause-comes c = λ go.
    c.loop-number.invariant.comes go ∙ items-trap c.args.call.now.rank.ranks c.args.call.now.requests c.args.call.now.mode c.args.call.now.answer c.args.active.now c.args.items.now c.loop-number.number c.index-items-number.result c.active_or_none-one.result c.loop-number.state c.put_item.new.state c.in_ok-put_item.field-0 c.loop-number-test.true c.index-items-number.is c.active_or_none-one.ensures c.in_ok-put_item.ensures c.if-not-branch.true go

pub returns-then-not-branch-clause-left : goal.returns-then-not-branch-clause-left
returns-then-not-branch-clause-left c = let same = item_put-left c.args.call.now.rank.ranks c.args.call.now.requests c.args.call.now.mode c.args.call.now.answer c.active_or_none-one.result c.loop-number.number c.index-items-number.result.got c.loop-number.state c.put_item.new.state c.in_ok-put_item.field-0 c.in_ok-put_item.ensures in omega arith

pub loop-number-preserved : goal.loop-number-preserved
loop-number-preserved c = record {
  comes = λ go. c.loop-number.invariant.comes go ∙ items-next c.args.call.now.rank.ranks c.args.call.now.requests c.args.call.now.mode c.args.call.now.answer c.args.active.now c.args.items.now c.loop-number.number c.index-items-number.result c.active_or_none-one.result c.loop-number.state c.put_item.new.state c.in_ok-put_item.field-0 c.loop-number-test.true c.index-items-number.is c.active_or_none-one.ensures c.in_ok-put_item.ensures c.if-not-branch.false go;
  left = let same = item_put-left c.args.call.now.rank.ranks c.args.call.now.requests c.args.call.now.mode c.args.call.now.answer c.active_or_none-one.result c.loop-number.number c.index-items-number.result.got c.loop-number.state c.put_item.new.state c.in_ok-put_item.field-0 c.in_ok-put_item.ensures in omega arith;
}

pub returns-clause-comes : goal.returns-clause-comes
returns-clause-comes c = λ go. c.loop-number.invariant.comes go ∙ ap (λ items. put_items (completing_of c.args.call.now.rank.ranks c.args.call.now.requests c.args.call.now.mode c.args.call.now.answer) c.args.active.now c.loop-number.number items c.loop-number.state go) (drop_all c.loop-number.number c.args.items.now c.loop-number-test.false)
