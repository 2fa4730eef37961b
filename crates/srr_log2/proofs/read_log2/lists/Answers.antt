use Rattle.srr_log2.specs.EntryReading.{coded_rank_list}
use Rattle.srr_log2.proofs.LoopLaws.{many_more}
use Rattle.srr_log2.proofs.read_log2.lists.Goals as goal

pub loop-left-preserved : goal.loop-left-preserved
loop-left-preserved c =
    many_more (coded_rank_list c.args.ranks c.args.group.now) c.loop-left.found c.add_list.new.lists c.in_ok-entries.entries c.loop-left.left c.loop-left.cursor c.list.new.cursor _ c.loop-left-test.true c.loop-left.invariant c.in_ok-entries.ensures c.in_ok-add_list.ensures
