use Rattle.std.proofs.Common.{◌<◌, ◌∙◌, sym, arith}
use Rattle.run_model.proofs.CommunicatorLaws.{same_ranks-world}
use Rattle.run_model.proofs.communicators.are_all.Goals as goal

pub loop-rest-preserved : goal.loop-rest-preserved
loop-rest-preserved c =
    let lt : c.loop-rest.rank < c.args.n = omega (arith, c.loop-rest.invariant.within, c.if-rank-n.false) in
    record {
      within = omega (arith, lt);
      rest = sym (same_ranks-world c.args.n c.loop-rest.rank c.loop-rest.rest.now lt c.in-len1-up.len_at_least c.if-member-rank.false) ∙ c.loop-rest.invariant.rest;
    }
