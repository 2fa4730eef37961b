use Rattle.std.proofs.Common.{ap, arith, length, ◌∙◌}
use Rattle.msg_races.specs.Names.{count_racing}
use Rattle.msg_races.proofs.Counting.{count-push}
use Rattle.msg_races.proofs.listing.Listing.push.Goals as goal

pub returns-then-others-self-clause-many : goal.returns-then-others-self-clause-many
returns-then-others-self-clause-many c = λ too_many.
    rw (← c.self.view_is) (
    let pushed = count-push c.self.inside.receives c.args.receive in
    let long = ap length c.as_slice-others.ensures in
    let is = c.self.invariant in
    let above = c.if-others-self.true in
    omega (arith, pushed, long, is, above))

pub invariant_of-self-2 : goal.invariant_of-self-2
invariant_of-self-2 c =
    let pushed = ap count_racing c.in-Ok.ensures.ok ∙ count-push c.self.inside.receives c.args.receive in
    let long = ap length c.as_slice-others.ensures in
    let is = c.self.invariant in
    let low = c.if-others-self.false in
    omega (arith, pushed, long, is, low)
