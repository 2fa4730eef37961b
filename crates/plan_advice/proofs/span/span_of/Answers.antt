use Rattle.std.proofs.Common.{sym}
use Rattle.srr_entry.proofs.Making.{enter_form}
use Rattle.plan_advice.proofs.Inner.{other_reaches}
use Rattle.plan_advice.proofs.span.span_of.Goals as goal

pub needed_span-requires-clause-form : goal.needed_span-requires-clause-form
needed_span-requires-clause-form c =
    (enter_form c.args.owner.now.ranks c.args.owner.now.rank c.requires.0 c.args.start c.in-Some.call.now c.in-Enter.comm c.in-Enter.kind c.in-Enter.root c.in-Enter.op c.in-Enter.count c.in-Enter.ints c.in-Some-members.members.now
    c.requires.2 (sym (c.in-Some.ensures _ _ c.requires.1)) c.in-Enter.is (sym (c.in-Some-members.ensures _ _ c.requires.1))).0

pub needed_span-requires-clause-member : goal.needed_span-requires-clause-member
needed_span-requires-clause-member c =
    (enter_form c.args.owner.now.ranks c.args.owner.now.rank c.requires.0 c.args.start c.in-Some.call.now c.in-Enter.comm c.in-Enter.kind c.in-Enter.root c.in-Enter.op c.in-Enter.count c.in-Enter.ints c.in-Some-members.members.now
    c.requires.2 (sym (c.in-Some.ensures _ _ c.requires.1)) c.in-Enter.is (sym (c.in-Some-members.ensures _ _ c.requires.1))).1

pub returns-in_default : goal.returns-in_default
returns-in_default c = λ own begin end is has.
    other_reaches c.args.owner.now.ranks c.args.owner.now.rank own c.args.start c.in-Some.call.now begin end
    (sym (c.in-Some.ensures _ own is)) c.in_default.not-Enter has
