use Rattle.std.proofs.Common.{true}
use Rattle.wiz_runs.proofs.RecordingLemmas.{recorded_run}
use Rattle.wiz_runs.proofs.commands.races.is_a_run.Goals as goal

pub returns : goal.returns
returns c = recorded_run true c.args.ready.now c.args.recording.now c.requires
