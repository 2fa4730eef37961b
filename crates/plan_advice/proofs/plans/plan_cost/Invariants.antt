use Rattle.std.proofs.Common.{◌≡◌, ◌≤◌, ◌*◌, ◌^◌, take}
use Rattle.plan_advice.specs.Costs.{plan_cost}
use Rattle.plan_advice.proofs.plans.plan_cost.Given as goal

abbrev pub invariant-loop-group : goal.invariant-loop-group
invariant-loop-group l = record {
  cost : l.total ≡ plan_cost l.n l.history.events (take l.group l.plan);
  few : l.total ≤ l.group * 2 ^ 38;
}
