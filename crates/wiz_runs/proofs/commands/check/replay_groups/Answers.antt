use Rattle.wiz_runs.proofs.CheckLemmas.{replays_all, replays_more}
use Rattle.wiz_runs.proofs.commands.check.replay_groups.Goals as goal

pub loop-log-preserved : goal.loop-log-preserved
loop-log-preserved g c =
    rw c.in_ok-push.ensures.ok
    (replays_more c.args.logs.now c.loop-log.replays c.loop-log.log-index c.log-item.result c.in_ok-replayed.replayed c.loop-log-test.true c.log-item.is
    c.loop-log.invariant c.in_ok-replayed.ensures)

pub returns : goal.returns
returns g c = replays_all c.args.logs.now c.loop-log.replays c.loop-log.log-index c.loop-log-test.false c.loop-log.invariant
