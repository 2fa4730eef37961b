use Rattle.plan_advice.specs.Costs.{block_cost}
use Rattle.plan_advice.proofs.Certified.{IsTested}
use Rattle.plan_advice.proofs.holding.is_bound.Given as goal

abbrev pub invariant-loop-begin : goal.invariant-loop-begin
invariant-loop-begin l = IsTested (block_cost l.costs.ranks l.costs.events) l.most l.bounds l.begin l.end l.reached
