use Rattle.plan_advice.specs.Costs.{block_cost}
use Rattle.plan_advice.specs.inside.Ways.{AreWays}
use Rattle.plan_advice.proofs.ways.find_ways.Given as goal

abbrev pub invariant-loop-before : goal.invariant-loop-before
invariant-loop-before l = AreWays (block_cost l.costs.ranks l.costs.events) l.most l.before (record { begins = l.begins; bounds = l.bounds })
