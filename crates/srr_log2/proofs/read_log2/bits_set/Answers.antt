use Rattle.srr_log2.proofs.TopLaws.{bits_more}
use Rattle.srr_log2.proofs.read_log2.bits_set.Goals as goal

pub loop-rank-preserved : goal.loop-rank-preserved
loop-rank-preserved c = bits_more c.args.ranks c.loop-rank.rank c.loop-rank.left c.loop-rank.group c.add_if_set.new.found _ c.loop-rank-test.true c.loop-rank.invariant c.in_ok-add_if_set.ensures
