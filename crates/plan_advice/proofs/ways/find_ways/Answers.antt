use Rattle.plan_advice.specs.Costs.{block_cost}
use Rattle.plan_advice.proofs.Steps.{ways_more}
use Rattle.plan_advice.proofs.ways.find_ways.Goals as goal

pub loop-before-preserved : goal.loop-before-preserved
loop-before-preserved c =
    ways_more (block_cost c.args.costs.now.ranks c.args.costs.now.events) c.args.most c.loop-before.before c.loop-before.begins c.push-in-loop-before.new.self
    c.loop-before.bounds c.push-in-loop-before-2.new.self c.cheapest-way.result c.loop-before.invariant
    (rw c.as_slice.ensures at c.cheapest-way.ensures.way) c.cheapest-way.ensures.small c.in_ok-push-3.ensures.ok c.in_ok-push-4.ensures.ok
