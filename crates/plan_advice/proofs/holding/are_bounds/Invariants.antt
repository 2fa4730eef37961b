use Rattle.std.proofs.Common.{◌≤◌, ◌<◌, ℕ}
use Rattle.plan_advice.specs.Costs.{block_cost}
use Rattle.plan_advice.specs.inside.Ways.{IsBound}
use Rattle.plan_advice.proofs.holding.are_bounds.Given as goal

abbrev pub invariant-loop-before : goal.invariant-loop-before
invariant-loop-before l = (end : ℕ) → 0 < end → end ≤ l.before → IsBound (block_cost l.costs.ranks l.costs.events) l.most l.bounds end
