use Rattle.std.proofs.Common.{◌≡◌, length}
use Rattle.rank_threads.specs.inside.Workers.{AreWorkers}
use Rattle.rank_threads.proofs.rounds.make_rounds.Given as goal

abbrev pub invariant-loop : goal.invariant-loop
invariant-loop g l = record {
  count : length l.workers.items ≡ length l.ranks;
  workers : AreWorkers g.M.Attempts.reading g.R.RankRun.standing l.lock l.ranks l.workers.items;
}
