use Rattle.std.proofs.Common.{◌≡◌, ◌∙◌, sym, ap, refl}
use Rattle.rank_machine.specs.declared.frame.ContinuationFrame.TheVariants.{One, Rest, Items, Block, Repeat, Turn, Called}
use Rattle.rank_machine.specs.Frames.{Open, within}
use Rattle.rank_machine.proofs.Stacks.{first-part, no-items, pushed, rest-goes, stands-from}
use Rattle.rank_machine.proofs.stack.Stack.resume.Goals as goal

pub statement-requires-clause-counted : goal.statement-requires-clause-counted
statement-requires-clause-counted c =
    let p = pushed c.args.code.now c.pop.new.self.items c.args.self.now.frames.items (One c.in-One.stmt) (rw c.in-One.is at c.in-Some.ensures.items) in
    c.requires.counted ∙ ap (λ (o : Open). o.opens) p

pub returns-in-One-clause-stands : goal.returns-in-One-clause-stands
returns-in-One-clause-stands c =
    let p = pushed c.args.code.now c.pop.new.self.items c.args.self.now.frames.items (One c.in-One.stmt) (rw c.in-One.is at c.in-Some.ensures.items) in
    let counted : c.args.self.now.opens ≡ (within c.args.code.now c.pop.new.self.items).opens = c.requires.counted ∙ ap (λ (o : Open). o.opens) p in
    stands-from _ _ _ _ _ (ap (λ (o : Open). o.exits.next c.args.self.now.state) p) (rw counted at c.statement.ensures.stands)

pub declare_all-requires : goal.declare_all-requires
declare_all-requires c =
    let p = pushed c.args.code.now c.pop.new.self.items c.args.self.now.frames.items (Items c.in-Items.items) (rw c.in-Items.is at c.in-Some.ensures.items) in
    c.requires.counted ∙ ap (λ (o : Open). o.opens) p

pub returns-in-Items-clause-stands : goal.returns-in-Items-clause-stands
returns-in-Items-clause-stands c =
    let p = pushed c.args.code.now c.pop.new.self.items c.args.self.now.frames.items (Items c.in-Items.items) (rw c.in-Items.is at c.in-Some.ensures.items) in
    let counted : c.args.self.now.opens ≡ (within c.args.code.now c.pop.new.self.items).opens = c.requires.counted ∙ ap (λ (o : Open). o.opens) p in
    stands-from _ _ _ _ _ (ap (λ (o : Open). o.exits.next c.args.self.now.state) p) (rw counted at c.declare_all.ensures.stands)

pub repeat-requires : goal.repeat-requires
repeat-requires c =
    let p = pushed c.args.code.now c.pop.new.self.items c.args.self.now.frames.items (Repeat c.in-Repeat.around) (rw c.in-Repeat.is at c.in-Some.ensures.items) in
    c.requires.counted ∙ ap (λ (o : Open). o.opens) p

pub returns-in-Repeat-clause-stands : goal.returns-in-Repeat-clause-stands
returns-in-Repeat-clause-stands c =
    let p = pushed c.args.code.now c.pop.new.self.items c.args.self.now.frames.items (Repeat c.in-Repeat.around) (rw c.in-Repeat.is at c.in-Some.ensures.items) in
    let counted : c.args.self.now.opens ≡ (within c.args.code.now c.pop.new.self.items).opens = c.requires.counted ∙ ap (λ (o : Open). o.opens) p in
    stands-from _ _ _ _ _ (ap (λ (o : Open). o.exits.next c.args.self.now.state) p) (rw counted at c.repeat.ensures.stands)

pub update-requires-clause-counted : goal.update-requires-clause-counted
update-requires-clause-counted c =
    let p = pushed c.args.code.now c.pop.new.self.items c.args.self.now.frames.items (Turn c.in-Turn.update) (rw c.in-Turn.is at c.in-Some.ensures.items) in
    c.requires.counted ∙ ap (λ (o : Open). o.opens) p

pub returns-in-Turn-clause-stands : goal.returns-in-Turn-clause-stands
returns-in-Turn-clause-stands c =
    let p = pushed c.args.code.now c.pop.new.self.items c.args.self.now.frames.items (Turn c.in-Turn.update) (rw c.in-Turn.is at c.in-Some.ensures.items) in
    let counted : c.args.self.now.opens ≡ (within c.args.code.now c.pop.new.self.items).opens = c.requires.counted ∙ ap (λ (o : Open). o.opens) p in
    stands-from _ _ _ _ _ (ap (λ (o : Open). o.exits.next c.args.self.now.state) p) (rw counted at c.update.ensures.stands)

pub come_back-requires : goal.come_back-requires
come_back-requires c =
    let p = pushed c.args.code.now c.pop.new.self.items c.args.self.now.frames.items (Called c.in-Called.called) (rw c.in-Called.is at c.in-Some.ensures.items) in
    c.requires.counted ∙ ap (λ (o : Open). o.opens) p

pub returns-in-Called-clause-stands : goal.returns-in-Called-clause-stands
returns-in-Called-clause-stands c =
    let p = pushed c.args.code.now c.pop.new.self.items c.args.self.now.frames.items (Called c.in-Called.called) (rw c.in-Called.is at c.in-Some.ensures.items) in
    stands-from _ _ _ _ _ (ap (λ (o : Open). o.exits.next c.args.self.now.state) p) c.come_back.ensures.stands

pub returns-in-Block-clause-stands : goal.returns-in-Block-clause-stands
returns-in-Block-clause-stands c =
    let p = pushed c.args.code.now c.pop.new.self.items c.args.self.now.frames.items (Block c.in-Block.mark) (rw c.in-Block.is at c.in-Some.ensures.items) in
    record {
      is = ap (λ (o : Open). o.exits.next c.args.self.now.state) p ∙ ap (λ s. (within c.args.code.now c.pop.new.self.items).exits.next s) (sym c.leave.ensures);
      counted = c.requires.counted ∙ ap (λ (o : Open). o.opens) p;
    }

pub part-requires-clause-counted : goal.part-requires-clause-counted
part-requires-clause-counted c =
    let p = pushed c.args.code.now c.pop.new.self.items c.args.self.now.frames.items (Rest c.in-Rest-len1-up.field-0) (rw c.in-Rest-len1-up.is at c.in-Some.ensures.items) in
    let q = pushed c.args.code.now c.pop.new.self.items c.push.new.self.items _ c.in_ok-push-in-Rest-len1-up.ensures.items in
    c.requires.counted ∙ ap (λ (o : Open). o.opens) p ∙ sym (ap (λ (o : Open). o.opens) q)

pub returns-in-Rest-empty-clause-stands : goal.returns-in-Rest-empty-clause-stands
returns-in-Rest-empty-clause-stands c =
    let p = pushed c.args.code.now c.pop.new.self.items c.args.self.now.frames.items (Rest c.in-Rest-empty.field-0) (rw c.in-Rest-empty.is at c.in-Some.ensures.items) in
    record {
      is = ap (λ (o : Open). o.exits.next c.args.self.now.state) p ∙ rw (no-items _ c.in-Rest-empty.len_below) refl;
      counted = c.requires.counted ∙ ap (λ (o : Open). o.opens) p;
    }

pub returns-in_ok-push-in-Rest-len1-up-clause-stands : goal.returns-in_ok-push-in-Rest-len1-up-clause-stands
returns-in_ok-push-in-Rest-len1-up-clause-stands c =
    rest-goes c.args.code.now c.pop.new.self.items c.args.self.now.frames.items c.push.new.self.items c.in-Rest-len1-up.field-0 _ c.first-item.result c.args.self.now.state c.args.self.now.opens _ _
    (rw c.in-Rest-len1-up.is at c.in-Some.ensures.items) (first-part _ c.first-item.result c.in-Rest-len1-up.len_at_least c.first-item.is) c.in_ok-push-in-Rest-len1-up.ensures.items c.requires.counted c.part.ensures.stands
