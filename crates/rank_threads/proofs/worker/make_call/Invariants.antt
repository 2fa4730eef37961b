use Rattle.std.proofs.Common.{◌≡◌, false}
use Rattle.rank_threads.specs.inside.Workers.{HasWorked}
use Rattle.rank_threads.proofs.worker.make_call.Given as goal

abbrev pub invariant-loop : goal.invariant-loop
invariant-loop g l = record {
  worked : HasWorked g.M.Attempts.reading g.R.RankRun.standing l.lock l.fn.worker l.worker;
  ample : l.worker.is_short ≡ false;
  run : l.worker.run ≡ l.fn.worker.run;
  own : l.worker.seat.own ≡ l.fn.worker.seat.own;
}
