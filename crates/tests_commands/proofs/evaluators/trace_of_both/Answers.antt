use Rattle.wiz_task.proofs.LogLemmas.{IsReplayable-text}
use Rattle.tests_commands.proofs.evaluators.trace_of_both.Goals as goal

pub replay_suspended-requires : goal.replay_suspended-requires
replay_suspended-requires c = IsReplayable-text _ c.in-Ok.log c.in-Ok.ensures.log

pub replay_again-requires : goal.replay_again-requires
replay_again-requires c = IsReplayable-text _ c.in-Ok.log c.in-Ok.ensures.log
