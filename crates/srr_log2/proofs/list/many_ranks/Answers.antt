use Rattle.srr_log2.specs.EntryReading.{coded_rank}
use Rattle.srr_log2.proofs.LoopLaws.{many_more}
use Rattle.srr_log2.proofs.list.many_ranks.Goals as goal

pub loop-left-preserved : goal.loop-left-preserved
loop-left-preserved c =
    many_more (coded_rank c.args.ranks) c.loop-left.found c.add_rank.new.found c.in_ok-rank.rank c.loop-left.left c.loop-left.cursor c.rank.new.cursor _ c.loop-left-test.true c.loop-left.invariant c.in_ok-rank.ensures c.in_ok-add_rank.ensures
