use Rattle.std.proofs.Common.{◌≡◌, ◌∙◌, ◌+◌, ◌≤◌, Some, None, Vec, Global, sym, ap, arith, drop, map, rules}
use Rattle.std.proofs.lemmas.Result.{err_from_is_err_and}
use Rattle.c_program.specs.Meaning.{declare_all}
use Rattle.c_program.specs.View.{pure_call, pure_initial, pure_item}
use Rattle.c_run_cells.proofs.Lists.{behind_all}
use Rattle.rank_machine.specs.declared.frame.ContinuationFrame.{ContinuationFrame}
use Rattle.rank_machine.specs.Frames.{Open, initial_call, calls_in, within}
use Rattle.rank_machine.proofs.Items.{begins, item-at, then-calling, then-plainly}
use Rattle.rank_machine.proofs.Stacks.{fails-from, item-calls, pushed, take-rest}
use Rattle.rank_machine.proofs.stack.Stack.declare_all.Goals as goal

pub returns-in_err-cell-clause-stands : goal.returns-in_err-cell-clause-stands
returns-in_err-cell-clause-stands c =
    let calls = calls_in c.args.code.now c.args.self.now.opens in
    let others = map pure_item (drop (c.loop-i.i + 1) c.args.items.now) in
    let k = (within c.args.code.now c.args.self.now.frames.items).exits.next in
    let p = err_from_is_err_and c.from_residual.result c.from_residual.ensures.1 in
    rw (p.1, p.2) (fails-from _ _ _ _ (c.loop-i.invariant.comes k ∙ item-at calls c.args.items.now c.loop-i.i c.index-items-i.result c.loop-i.self.state k c.loop-i-test.true c.index-items-i.is) (c.in_err-cell.ensures (begins calls (pure_item c.index-items-i.result) others k)))

pub returns-in_err-begin_value-clause-stands : goal.returns-in_err-begin_value-clause-stands
returns-in_err-begin_value-clause-stands c =
    let calls = calls_in c.args.code.now c.args.self.now.opens in
    let others = map pure_item (drop (c.loop-i.i + 1) c.args.items.now) in
    let k = (within c.args.code.now c.args.self.now.frames.items).exits.next in
    let plain : initial_call (pure_initial c.index-items-i.result.initial) ≡ None = search rules in
    let p = err_from_is_err_and c.from_residual-in_err-begin_value.result c.from_residual-in_err-begin_value.ensures.1 in
    rw (p.1, p.2) (fails-from _ _ _ _ (then-plainly calls (pure_item c.index-items-i.result) others k _ c.loop-i.self.state c.add.new.state c.in_ok-cell.cell (c.loop-i.invariant.comes k ∙ item-at calls c.args.items.now c.loop-i.i c.index-items-i.result c.loop-i.self.state k c.loop-i-test.true c.index-items-i.is) c.in_ok-cell.ensures plain) (c.in_err-begin_value.ensures (λ s. declare_all calls others s k)))

pub loop-i-preserved : goal.loop-i-preserved
loop-i-preserved c =
    let calls = calls_in c.args.code.now c.args.self.now.opens in
    let others = map pure_item (drop (c.loop-i.i + 1) c.args.items.now) in
    let plain : initial_call (pure_initial c.index-items-i.result.initial) ≡ None = search rules in
    let added : c.add.new.state.left ≤ c.loop-i.self.state.left = c.in_ok-cell.ensures.left in
    let begun : c.begin_value.new.state.left ≤ c.add.new.state.left = c.in_ok-begin_value.ensures.left in
    let before : c.loop-i.self.state.left ≤ c.args.self.now.state.left = c.loop-i.invariant.left in
    record {
      comes = λ k. then-plainly calls (pure_item c.index-items-i.result) others k _ c.loop-i.self.state c.add.new.state c.in_ok-cell.cell (c.loop-i.invariant.comes k ∙ item-at calls c.args.items.now c.loop-i.i c.index-items-i.result c.loop-i.self.state k c.loop-i-test.true c.index-items-i.is) c.in_ok-cell.ensures plain ∙ c.in_ok-begin_value.ensures.at (λ s. declare_all calls others s k);
      frames = c.loop-i.invariant.frames;
      opens = c.loop-i.invariant.opens;
      left = omega arith;
    }

pub invoke-requires : goal.invoke-requires
invoke-requires c =
    c.loop-i.invariant.opens ∙ c.requires ∙ sym (ap (λ (fs : Vec ContinuationFrame Global). (within c.args.code.now fs.items).opens) c.loop-i.invariant.frames) ∙ sym (ap (λ (o : Open). o.opens) (pushed c.args.code.now c.loop-i.self.frames.items c.push.new.self.items _ c.in_ok-push.ensures.items))

pub returns-in-Some-clause-stands : goal.returns-in-Some-clause-stands
returns-in-Some-clause-stands c =
    let calls = calls_in c.args.code.now c.args.self.now.opens in
    let others = map pure_item (drop (c.loop-i.i + 1) c.args.items.now) in
    let k = (within c.args.code.now c.args.self.now.frames.items).exits.next in
    let called : initial_call (pure_initial c.index-items-i.result.initial) ≡ Some (pure_call c.in-Some.call.now) = search rules in
    item-calls c.args.code.now c.args.self.now.frames.items c.loop-i.self.frames.items c.push.new.self.items c.args.self.now.opens c.loop-i.self.opens c.in_ok-cell.cell (pure_call c.in-Some.call.now) _ others c.add.new.state _ _ _
    (ap (λ (fs : Vec ContinuationFrame Global). fs.items) c.loop-i.invariant.frames) c.in_ok-push.ensures.items c.loop-i.invariant.opens c.requires (ap (map pure_item) (take-rest (c.loop-i.i + 1) c.args.items.now))
    (then-calling calls (pure_item c.index-items-i.result) others k _ c.loop-i.self.state c.add.new.state c.in_ok-cell.cell (c.loop-i.invariant.comes k ∙ item-at calls c.args.items.now c.loop-i.i c.index-items-i.result c.loop-i.self.state k c.loop-i-test.true c.index-items-i.is) c.in_ok-cell.ensures (pure_call c.in-Some.call.now) called)
    c.invoke.ensures.stands

pub returns-clause-stands : goal.returns-clause-stands
returns-clause-stands c =
    let k = (within c.args.code.now c.args.self.now.frames.items).exits.next in
    record {
      is = c.loop-i.invariant.comes k ∙ rw (behind_all c.args.items.now c.loop-i.i (omega arith)) (ap (λ (fs : Vec ContinuationFrame Global). (within c.args.code.now fs.items).exits.next c.loop-i.self.state) (sym c.loop-i.invariant.frames));
      counted = c.loop-i.invariant.opens ∙ c.requires ∙ sym (ap (λ (fs : Vec ContinuationFrame Global). (within c.args.code.now fs.items).opens) c.loop-i.invariant.frames);
    }
