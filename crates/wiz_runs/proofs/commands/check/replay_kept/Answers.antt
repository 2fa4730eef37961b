use Rattle.wiz_task.proofs.LogLemmas.{IsReplayable-text}
use Rattle.wiz_runs.proofs.commands.check.replay_kept.Goals as goal

pub replay_text-requires-clause-log : goal.replay_text-requires-clause-log
replay_text-requires-clause-log g c = IsReplayable-text _ c.in-Ok.read c.in-Ok.ensures.log
