use Rattle.std.proofs.Common.{rules}
use Rattle.turn_lock.proofs.Callers.{idle_each}
use Rattle.rank_threads.proofs.Workers.{runs_after}
use Rattle.rank_threads.proofs.rounds.run.Goals as goal

pub close-requires-clause-each : goal.close-requires-clause-each
close-requires-clause-each g c = idle_each c.in_ok-lock.lock c.in_ok-seats.seats.items c.in_ok-seats.ensures.idle

pub returns-clause-runs : goal.returns-clause-runs
returns-clause-runs g c =
    let lock = c.in_ok-lock.ensures.lock in
    runs_after g.M.Attempts.reading g.R.RankRun.standing c.in_ok-lock.lock (g.M.Ledger.frame c.args.value) c.args.ranks.now (g.M.Ledger.entries c.close.result) c.in_ok-seats.seats.items c.in_ok-seats.runs.items
    lock.1 (search rules) c.in_ok-seats.ensures.idle c.close.ensures.own c.in_ok-seats.ensures.runs
