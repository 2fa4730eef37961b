use Rattle.std.proofs.Common.{arith}
use Rattle.rank_counts.proofs.GreaterLemmas.{greater_all, greater_more, greater_none}
use Rattle.rank_counts.proofs.take_greater.Goals as goal

pub loop-rank-init : goal.loop-rank-init
loop-rank-init c = greater_none _ _

pub loop-rank-preserved : goal.loop-rank-preserved
loop-rank-preserved c = greater_more c.loop-rank.rank c.args.mine.now c.args.other.now c.loop-rank.mine c.max.result (omega arith) c.max.ensures c.loop-rank.invariant

pub returns : goal.returns
returns c = greater_all c.loop-rank.rank c.args.mine.now c.args.other.now c.loop-rank.mine (omega arith) c.requires c.loop-rank.invariant
