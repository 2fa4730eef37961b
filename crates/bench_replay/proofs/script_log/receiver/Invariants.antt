use Rattle.std.proofs.Common.{◌≡◌}
use Rattle.bench_replay.specs.Logs.{receives}
use Rattle.bench_replay.proofs.script_log.receiver.Given as goal

abbrev pub invariant-loop-start : goal.invariant-loop-start
invariant-loop-start l = l.entries ≡ receives l.start
