use Rattle.std.proofs.Common.{inl}
use Rattle.wiz_task.proofs.LogLemmas.{IsReplayable-text}
use Rattle.tests_threads.proofs.starting.read.Goals as goal

pub returns-in-Ok : goal.returns-in-Ok
returns-in-Ok c = IsReplayable-text _ c.in-Ok.log (inl c.in-Ok.ensures.log)
