use Rattle.std.proofs.Common.{◌∙◌, map, sym, ap, refl}
use Rattle.c_program.specs.Meaning.{declare_all, leaving}
use Rattle.c_program.specs.State.{State, stack_mark}
use Rattle.c_program.specs.View.{pure_item}
use Rattle.rank_machine.specs.declared.frame.ContinuationFrame.TheVariants.{Block, Repeat}
use Rattle.rank_machine.specs.Frames.{Open, calls_in, open_inside, looping, within}
use Rattle.rank_machine.proofs.Stacks.{at-is, pushed-two, stands-from}
use Rattle.rank_machine.proofs.stack.Stack.run_for.Goals as goal

pub declare_all-requires : goal.declare_all-requires
declare_all-requires c =
    let p = pushed-two c.args.code.now c.args.self.now.frames.items c.push.new.self.items c.push-2.new.self.items (Block c.mark.result) (Repeat c.args.around) c.in_ok-push.ensures.items c.in_ok-push-2.ensures.items in
    c.requires.counted ∙ sym (ap (λ (o : Open). o.opens) p)

pub simple-requires-clause-counted : goal.simple-requires-clause-counted
simple-requires-clause-counted c =
    let p = pushed-two c.args.code.now c.args.self.now.frames.items c.push.new.self.items c.push-2.new.self.items (Block c.mark.result) (Repeat c.args.around) c.in_ok-push.ensures.items c.in_ok-push-2.ensures.items in
    c.requires.counted ∙ sym (ap (λ (o : Open). o.opens) p)

pub returns-in-Nothing-clause-stands : goal.returns-in-Nothing-clause-stands
returns-in-Nothing-clause-stands c =
    let p = pushed-two c.args.code.now c.args.self.now.frames.items c.push.new.self.items c.push-2.new.self.items (Block c.mark.result) (Repeat c.args.around) c.in_ok-push.ensures.items c.in_ok-push-2.ensures.items in
    at-is _ c.args.code.now _ _ (open_inside c.args.code.now (Repeat c.args.around) (open_inside c.args.code.now (Block c.mark.result) (within c.args.code.now c.args.self.now.frames.items))) p
    (rw (c.in-Nothing.is, c.mark.ensures, ← c.requires.counted) refl) c.requires.counted

pub returns-in_ok-take_step-in-Declaration-clause-stands : goal.returns-in_ok-take_step-in-Declaration-clause-stands
returns-in_ok-take_step-in-Declaration-clause-stands c =
    let k = (within c.args.code.now c.args.self.now.frames.items).exits in
    let p = pushed-two c.args.code.now c.args.self.now.frames.items c.push.new.self.items c.push-2.new.self.items (Block c.mark.result) (Repeat c.args.around) c.in_ok-push.ensures.items c.in_ok-push-2.ensures.items in
    let h = rw (p, c.deref.ensures.value, c.mark.ensures, ← c.requires.counted) at c.declare_all.ensures.stands in
    stands-from _ _ _ _ _ (rw c.in-Declaration.is (c.in_ok-take_step-in-Declaration.ensures.evaluated.at (λ (s : State). declare_all (calls_in c.args.code.now c.args.self.now.opens) (map pure_item c.in-Declaration.declaration.items.items) s (λ t. looping c.args.code.now c.args.self.now.opens c.args.around t (leaving (stack_mark c.args.self.now.state) k))))) h

pub returns-in-Simple-clause-stands : goal.returns-in-Simple-clause-stands
returns-in-Simple-clause-stands c =
    let p = pushed-two c.args.code.now c.args.self.now.frames.items c.push.new.self.items c.push-2.new.self.items (Block c.mark.result) (Repeat c.args.around) c.in_ok-push.ensures.items c.in_ok-push-2.ensures.items in
    let h = rw (p, c.mark.ensures, ← c.requires.counted) at c.simple.ensures.stands in
    stands-from _ _ _ _ _ (rw c.in-Simple.is refl) h
