use Rattle.std.proofs.Common.{arith}
use Rattle.plan_advice.specs.Costs.{block_cost}
use Rattle.plan_advice.proofs.Certified.{bounds_more, certificate_from}
use Rattle.plan_advice.proofs.holding.are_bounds.Goals as goal

pub loop-before-preserved : goal.loop-before-preserved
loop-before-preserved c =
    bounds_more (block_cost c.args.costs.now.ranks c.args.costs.now.events) c.args.most c.args.bounds.now c.loop-before.before c.loop-before.invariant c.if-not-is_bound.ensures

pub returns : goal.returns
returns c =
    certificate_from (block_cost c.args.costs.now.ranks c.args.costs.now.events) c.args.n c.args.most c.args.bounds.now
    (omega (arith, c.if-bounds-n.false)) (omega (arith, c.if-bounds-ne0.false))
    (λ end some within. (let past = c.loop-before-test.false in c.loop-before.invariant end some (omega (arith, within, past))))
