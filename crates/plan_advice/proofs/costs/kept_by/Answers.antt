use Rattle.std.proofs.Common.{◌≡◌, ◌<◌, ◌∙◌, [], ap, arith, length}
use Rattle.std.specs.List.{slice_index_or}
use Rattle.plan_advice.specs.inside.Pieces.{block_ranks, kept_by, kept_in}
use Rattle.plan_advice.proofs.Totals.{kept_more, same_at}
use Rattle.plan_advice.proofs.costs.kept_by.Goals as goal

pub loop-rank-preserved : goal.loop-rank-preserved
loop-rank-preserved c =
    let below = c.loop-rank-test.true in
    let less : c.loop-rank.rank < length c.args.lists.now = omega (arith, below, c.requires.within) in
    let is : c.kept_in-total.result ≡ kept_in c.args.begin c.args.end (slice_index_or c.args.lists.now c.loop-rank.rank []) =
    c.kept_in-total.ensures.kept
    ∙ ap (λ l. kept_in c.args.begin c.args.end l) (c.as_slice.ensures ∙ (c.index-lists-rank.is ∙ same_at c.args.lists.now c.loop-rank.rank c.index-lists-rank.result [] less)) in
    record {
      kept = kept_more c.args.begin c.args.end c.loop-rank.rank c.loop-rank.total c.kept_in-total.result c.args.lists.now (kept_by c.args.begin c.args.end c.args.lists.now (block_ranks c.args.begin c.args.end))
          below is c.loop-rank.invariant.kept;
      few = (let few = c.loop-rank.invariant.few in let one = c.kept_in-total.ensures.few in let low = c.loop-rank.auto.rank in omega (arith, few, one, low));
    }
