use Rattle.wiz_runs.proofs.CheckLemmas.{logs_checked, logs_kept}
use Rattle.wiz_runs.proofs.commands.check.run_and_replay.Goals as goal

pub replay_groups-requires-clause-logs : goal.replay_groups-requires-clause-logs
replay_groups-requires-clause-logs g c =
    rw c.as_slice.ensures
    (logs_kept c.args.ready.now g.R.Runner.is_threaded c.in_ok-recording.recording c.requires.ready c.in_ok-recording.ensures)

pub returns : goal.returns
returns g c = record {
  made = c.in_ok-recording.ensures;
  checks = logs_checked c.args.ready.now g.R.Runner.is_threaded c.in_ok-recording.recording c.in_ok-replays.replays c.requires.ready c.in_ok-recording.ensures
      (rw c.as_slice.ensures at c.in_ok-replays.ensures);
}
