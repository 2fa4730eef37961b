use Rattle.std.proofs.Common.{◌≡◌, ◌∙◌, ap, arith}
use Rattle.plan_advice.specs.Costs.{group_cost, ints_in_log}
use Rattle.plan_advice.proofs.Given.{group_views}
use Rattle.plan_advice.proofs.Sizes.{group_small}
use Rattle.plan_advice.proofs.plans.group_cost.Goals as goal

pub log_of-requires : goal.log_of-requires
log_of-requires c = group_views c.args.n c.args.by_rank.now c.args.group.now c.requires.run c.requires.below

pub ints_in_log-requires : goal.ints_in_log-requires
ints_in_log-requires c =
    let small = group_small c.args.n c.args.by_rank.now c.args.group.now c.requires.run c.requires.group.1 c.requires.below in
    let same : ints_in_log c.in_ok-log.log ≡ group_cost c.args.n c.args.by_rank.now c.args.group.now = ap ints_in_log c.in_ok-log.ensures in
    omega (arith, small, same)

pub returns : goal.returns
returns c =
    let small = group_small c.args.n c.args.by_rank.now c.args.group.now c.requires.run c.requires.group.1 c.requires.below in
    let same : ints_in_log c.in_ok-log.log ≡ group_cost c.args.n c.args.by_rank.now c.args.group.now = ap ints_in_log c.in_ok-log.ensures in
    record { cost = c.ints_in_log.ensures ∙ same; few = (let is = c.ints_in_log.ensures in omega (arith, small, same, is)) }
