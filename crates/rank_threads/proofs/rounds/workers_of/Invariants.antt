use Rattle.std.proofs.Common.{◌≡◌, ◌+◌, length, vec_len}
use Rattle.rank_threads.specs.inside.Workers.{AreWorkers, Each}
use Rattle.rank_threads.proofs.Workers.{FreshAt, StartsAt}
use Rattle.rank_threads.proofs.rounds.workers_of.Given as goal

abbrev pub invariant-loop-seat : goal.invariant-loop-seat
invariant-loop-seat g l = record {
  count : length l.runs.items ≡ length l.seats.items;
  total : length l.workers.items + length l.seats.items ≡ length l.ranks;
  seats : Each (FreshAt g.M.Attempts.reading g.R.RankRun.standing l.lock) l.seats.items;
  runs : Each (StartsAt g.M.Attempts.reading g.R.RankRun.standing l.lock l.ranks) l.runs.items;
  workers : AreWorkers g.M.Attempts.reading g.R.RankRun.standing l.lock l.ranks l.workers.items;
}

abbrev pub decreases-loop-seat : goal.decreases-loop-seat
decreases-loop-seat g l = vec_len l.seats
