use Rattle.std.proofs.Common.{◌∙◌, sym, ap, rules}
use Rattle.rank_machine.specs.declared.frame.ContinuationFrame.TheVariants.{Block, Called, Turn}
use Rattle.rank_machine.specs.Frames.{Open, within}
use Rattle.rank_machine.proofs.Stacks.{again-passes, at-is, opens-pass, pushed, stands-from}
use Rattle.rank_machine.proofs.stack.Stack.go_again.Goals as goal

pub returns-in-Turn-clause-stands : goal.returns-in-Turn-clause-stands
returns-in-Turn-clause-stands c =
    let p = pushed c.args.code.now c.pop.new.self.items c.loop-frame.self.frames.items (Turn c.in-Turn.update) (rw c.in-Turn.is at c.in-Some.ensures.items) in
    at-is _ c.args.code.now _ _ _ (pushed c.args.code.now _ _ _ c.in_ok-push-in-Turn.ensures.items)
    (c.loop-frame.invariant.way ∙ ap (λ (o : Open). o.exits.again c.loop-frame.self.state) p)
    (c.loop-frame.invariant.counted ∙ ap (λ (o : Open). o.opens) p)

pub loop-frame-preserved-in-Block : goal.loop-frame-preserved-in-Block
loop-frame-preserved-in-Block c =
    let p = pushed c.args.code.now c.pop.new.self.items c.loop-frame.self.frames.items (Block c.in-Block.mark) (rw c.in-Block.is at c.in-Some.ensures.items) in
    record {
      way = c.loop-frame.invariant.way ∙ ap (λ (o : Open). o.exits.again c.loop-frame.self.state) p ∙ ap (λ s. (within c.args.code.now c.pop.new.self.items).exits.again s) (sym c.leave.ensures);
      counted = c.loop-frame.invariant.counted ∙ ap (λ (o : Open). o.opens) p;
      fewer = search rules;
    }

pub come_back-requires : goal.come_back-requires
come_back-requires c =
    let p = pushed c.args.code.now c.pop.new.self.items c.loop-frame.self.frames.items (Called c.in-Called.called) (rw c.in-Called.is at c.in-Some.ensures.items) in
    c.loop-frame.invariant.counted ∙ ap (λ (o : Open). o.opens) p

pub returns-in-Called-clause-stands : goal.returns-in-Called-clause-stands
returns-in-Called-clause-stands c =
    let p = pushed c.args.code.now c.pop.new.self.items c.loop-frame.self.frames.items (Called c.in-Called.called) (rw c.in-Called.is at c.in-Some.ensures.items) in
    stands-from _ _ _ _ _ (c.loop-frame.invariant.way ∙ ap (λ (o : Open). o.exits.again c.loop-frame.self.state) p) c.come_back.ensures.stands

pub loop-frame-preserved : goal.loop-frame-preserved
loop-frame-preserved c = record {
  way = c.loop-frame.invariant.way ∙ again-passes c.args.code.now c.pop.new.self.items c.loop-frame.self.frames.items c.in-Some.frame c.in-Some.ensures.items (λ called. c.in_default-frame.not-Called called) (λ mark. c.in_default-frame.not-Block mark) (λ update. c.in_default-frame.not-Turn update) c.loop-frame.self.state;
  counted = c.loop-frame.invariant.counted ∙ opens-pass c.args.code.now c.pop.new.self.items c.loop-frame.self.frames.items c.in-Some.frame c.in-Some.ensures.items (λ called. c.in_default-frame.not-Called called);
  fewer = search rules;
}
