use Rattle.turn_lock.proofs.Callers.{idle_each}
use Rattle.tests_threads.proofs.locks.closed.Goals as goal

pub close-requires-clause-each : goal.close-requires-clause-each
close-requires-clause-each c = idle_each c.args.lock c.args.seats.items c.requires
