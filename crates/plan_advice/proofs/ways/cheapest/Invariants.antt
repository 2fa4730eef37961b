use Rattle.std.proofs.Common.{◌≤◌, ◌*◌, ◌^◌}
use Rattle.plan_advice.specs.Costs.{block_cost}
use Rattle.plan_advice.specs.inside.Ways.{IsCheapest}
use Rattle.plan_advice.proofs.ways.cheapest.Given as goal

abbrev pub invariant-loop-begin : goal.invariant-loop-begin
invariant-loop-begin l = record {
  way : IsCheapest (block_cost l.costs.ranks l.costs.events) l.most l.bounds l.begin l.end l.best;
  small : l.best.cost ≤ l.end * 2 ^ 32;
}
