use Rattle.std.proofs.Common.{length}
use Rattle.plan_advice.specs.Costs.{block_cost}
use Rattle.plan_advice.proofs.Certified.{IsCut}
use Rattle.plan_advice.proofs.holding.cost_of.Given as goal

abbrev pub invariant-loop-rest : goal.invariant-loop-rest
invariant-loop-rest l = IsCut (block_cost l.costs.ranks l.costs.events) l.n l.most l.ends l.begin l.total l.rest

abbrev pub decreases-loop-rest : goal.decreases-loop-rest
decreases-loop-rest l = length l.rest
