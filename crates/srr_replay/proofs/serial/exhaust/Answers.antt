use Rattle.std.proofs.Common.{suc}
use Rattle.run_model.proofs.Prefixes.{prefix_trans}
use Rattle.srr_replay.proofs.RoundsLemmas.{one_round, same_on}
use Rattle.srr_replay.proofs.serial.exhaust.Goals as goal

pub loop-replay-preserved : goal.loop-replay-preserved
loop-replay-preserved g c =
    let ok = c.in_ok-round.ensures in
    let inv = c.loop-replay.invariant in
    let start = c.args.replay.now in
    record {
      same = same_on start c.loop-replay.replay c.round.new.replay inv.same ok.same;
      begins = prefix_trans start.events c.loop-replay.replay.events c.round.new.replay.events inv.begins ok.begins;
      runs = rw (ok.same.program, ok.same.log) ok.runs;
      kept = ok.kept;
      counted = c.len-count-in-loop-replay.ensures;
      so_far = (suc inv.so_far.0, one_round g.P.Program.next inv.so_far.0 start c.loop-replay.replay c.round.new.replay inv.same.program inv.same.log inv.same.stop inv.so_far.1 ok.goes);
    }
