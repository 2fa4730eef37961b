use Rattle.std.proofs.Common.{◌≡◌, replicate}
use Rattle.srr_entry.specs.declared.entry.Entry.TheVariants.{Sent}
use Rattle.bench_replay.proofs.script_log.sender.Given as goal

abbrev pub invariant-loop : goal.invariant-loop
invariant-loop l = l.entries ≡ replicate l.counter Sent
