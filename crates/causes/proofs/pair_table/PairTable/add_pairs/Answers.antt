use Rattle.std.proofs.Common.{◌++◌, ◌∙◌}
use Rattle.causes.proofs.PartnerLemmas.{moved_on}
use Rattle.causes.proofs.pair_table.PairTable.add_pairs.Goals as goal

pub loop-rest-preserved : goal.loop-rest-preserved
loop-rest-preserved c = record {
  names = c.in_ok-add_pair.ensures.names ∙ c.loop-rest.invariant.names;
  others = λ pairs are.
      let now = c.loop-rest.invariant.others pairs are in
      (_, c.in_ok-add_pair.ensures.others now.0 now.1, moved_on c.loop-rest.rest.now now.0 (pairs ++ c.args.met.now) _ c.in-len1-up.len_at_least now.2);
}
