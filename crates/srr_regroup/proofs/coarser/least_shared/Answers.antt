use Rattle.std.proofs.Common.{◌∙◌, sym}
use Rattle.srr_regroup.proofs.Shared.{after_all, least_is, none_is}
use Rattle.srr_regroup.proofs.coarser.least_shared.Goals as goal

pub returns-clause-some : goal.returns-clause-some
returns-clause-some c = λ rank is.
    least_is c.args.one.now c.args.two.now rank
    (sym c.loop-rest.invariant ∙ (after_all c.args.two.now c.loop-rest.rest.now c.loop-rest.least c.in_default.len_below ∙ is))

pub returns-clause-none : goal.returns-clause-none
returns-clause-none c = λ is.
    none_is c.args.one.now c.args.two.now
    (sym c.loop-rest.invariant ∙ (after_all c.args.two.now c.loop-rest.rest.now c.loop-rest.least c.in_default.len_below ∙ is))
