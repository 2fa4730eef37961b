use Rattle.std.proofs.Common.{None, take}
use Rattle.std.specs.List.{AllZip}
use Rattle.srr_entry.specs.declared.log.Log.{Log}
use Rattle.wiz_task.specs.Replayings.{IsReplayOf}
use Rattle.wiz_runs.proofs.commands.check.replay_groups.Given as goal

abbrev pub invariant-loop-log : goal.invariant-loop-log
invariant-loop-log g l = AllZip (λ (log : Log). IsReplayOf log.program log None) (take l.log-index l.logs) l.replays
