use Rattle.rank_threads.proofs.Steps.{asks}
use Rattle.rank_threads.proofs.worker.make_next_call.Goals as goal

pub make_call-requires-clause-can : goal.make_call-requires-clause-can
make_call-requires-clause-can g c =
    let ok = c.ask.ensures in
    asks g.M.Attempts.reading g.R.RankRun.standing c.args.lock.now c.args.worker.now c.ask.new.worker c.requires.can ok.rest.0 ok.rest.1 c.requires.ample (rw c.in-Ok-Ask.is at ok.ok)

pub returns-in-Ok-Ended-clause-worked : goal.returns-in-Ok-Ended-clause-worked
returns-in-Ok-Ended-clause-worked g c =
    let ok = c.ask.ensures in
    record {
      rank = ok.rest.0;
      number = rw ok.rest.1;
      can = asks g.M.Attempts.reading g.R.RankRun.standing c.args.lock.now c.args.worker.now _ c.requires.can ok.rest.0 ok.rest.1 c.requires.ample (rw c.in-Ok-Ended.is at ok.ok);
    }
