use Rattle.std.proofs.Common.{◌≡◌, ◌∙◌, Err, ap, sym}
use Rattle.std.proofs.lemmas.Result.{err_from_is_err_and}
use Rattle.msg_races.specs.declared.fault.RaceFault.TheVariants.{TooMany}
use Rattle.msg_races.specs.Names.{most_racing}
use Rattle.msg_races.proofs.Early.{rest_is_early}
use Rattle.msg_races.proofs.races.add_rank.Goals as goal

pub returns-in_err-add_start-clause-many : goal.returns-in_err-add_start-clause-many
returns-in_err-add_start-clause-many c = λ too_many.
    let p = err_from_is_err_and c.from_residual.result c.from_residual.ensures.1 in
    let h : c.add_start.result ≡ Err TooMany = c.in_err-add_start.was ∙ ap Err (sym p.2) ∙ sym p.1 ∙ too_many in
    rest_is_early c.args.seen.now.causes c.args.rank c.loop-rest.start most_racing c.loop-rest.rest.now c.loop-rest.listing _
    c.in-len1-up.len_at_least c.loop-rest.invariant.same (c.add_start.ensures.many h)
