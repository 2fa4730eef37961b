use Rattle.std.proofs.Common.{arith, get_or}
use Rattle.plan_advice.specs.Costs.{block_cost}
use Rattle.plan_advice.proofs.Blocks.{rest_at}
use Rattle.plan_advice.proofs.Certified.{cut_none}
use Rattle.plan_advice.proofs.holding.cost_of.Goals.{then-end-n-via-then-end-n, then-end-n-via-else-end-n+then-not-is_block}
use Rattle.plan_advice.proofs.holding.cost_of.Goals as goal

pub returns-then-end-n : goal.returns-then-end-n
returns-then-end-n c =
    cut_none (block_cost c.args.costs.now.ranks c.args.costs.now.events) c.args.n c.args.most c.args.ends.now c.loop-rest.begin c.loop-rest.total (get_or c.loop-rest.rest.now 0 0) c.loop-rest.rest.now _
    (rest_at c.loop-rest.rest.now c.in-len1-up.len_at_least) c.loop-rest.invariant
    (elim c.then-end-n.branch [
      | then-end-n-via-then-end-n w ↦ (λ within one. (let past = w.if-end-n.true in omega (arith, within, past)))
      | then-end-n-via-else-end-n+then-not-is_block w ↦ (λ within one. w.if-not-is_block.ensures one)
    ])
