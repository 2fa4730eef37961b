use Rattle.std.proofs.Common.{◌∙◌, ap, arith}
use Rattle.plan_advice.specs.Costs.{block_cost}
use Rattle.plan_advice.specs.inside.Pieces.{Costed, block_ranks, kept_by}
use Rattle.plan_advice.proofs.Totals.{block_is}
use Rattle.plan_advice.proofs.costs.Costs.block.Goals as goal

pub returns-clause-cost : goal.returns-clause-cost
returns-clause-cost c =
    let few = c.ranges.end.fits in
    let within = rw (← c.self.view_is) at c.requires.within in
    c.kept_by.ensures.kept
    ∙ (ap (λ l. kept_by c.args.begin c.args.end l (block_ranks c.args.begin c.args.end)) c.deref.ensures.value
    ∙ (block_is c.self.inside.ranks c.self.inside.history.now.events c.self.inside.lists.items c.args.begin c.args.end c.self.invariant c.requires.some within (omega (arith, few))
    ∙ ap (λ (s : Costed). block_cost s.ranks s.events c.args.begin c.args.end) c.self.view_is))
