use Rattle.plan_advice.proofs.Totals.{AreCostsUpTo}
use Rattle.plan_advice.proofs.costs.Costs.new.Given as goal

abbrev pub invariant-loop-rank : goal.invariant-loop-rank
invariant-loop-rank l = AreCostsUpTo l.n l.rank l.history.events l.lists.items
