use Rattle.std.proofs.Common.{arith}
use Rattle.turn_lock.proofs.Callers.{idle_each}
use Rattle.bench_lock.proofs.Played.{turns_stand}
use Rattle.bench_lock.proofs.players.run.Goals as goal

pub close-requires-clause-each : goal.close-requires-clause-each
close-requires-clause-each g c = idle_each c.in_ok-lock.lock c.in_ok-seats.seats.items c.in_ok-seats.ensures.idle

pub returns-clause-each : goal.returns-clause-each
returns-clause-each g c = λ k lt. turns_stand c.in_ok-lock.lock c.args.turns c.in_ok-seats.seats.items c.close.result.entries.items c.in_ok-seats.ensures.idle c.in_ok-seats.ensures.own c.close.ensures.own k (let n = c.in_ok-lock.ensures.lock.0 in omega arith)
