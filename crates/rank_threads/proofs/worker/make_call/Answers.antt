use Rattle.std.proofs.Common.{◌∙◌, ap}
use Rattle.rank_threads.proofs.Steps.{stays}
use Rattle.rank_threads.proofs.worker.make_call.Goals as goal

pub loop-init : goal.loop-init
loop-init g c =
    let ok = c.pass_gate.ensures in
    let rested = c.rest.ensures in
    let seat = rested.2 ∙ ok.2 in
    record {
      worked = record {
        rank = rested.0 ∙ ok.0;
        number = ap (λ s. s.number) seat;
        can = stays g.M.Attempts.reading g.R.RankRun.standing c.args.lock.now c.args.worker.now c.rest.new.worker c.requires.can (rested.0 ∙ ok.0) (rested.1 ∙ ok.1)
            (rw seat c.requires.can.ready) (ap (λ s. s.own) seat) (λ ample. c.requires.ample);
      };
      ample = rested.3 ∙ (ok.3 ∙ c.requires.ample);
      run = rested.1 ∙ ok.1;
      own = ap (λ s. s.own) seat;
    }

pub returns-then-not-rest-clause-worked : goal.returns-then-not-rest-clause-worked
returns-then-not-rest-clause-worked g c =
    let ok = c.pass_gate.ensures in
    let rested = c.rest.ensures in
    let seat = rested.2 ∙ ok.2 in
    record {
      rank = rested.0 ∙ ok.0;
      number = ap (λ s. s.number) seat;
      can = stays g.M.Attempts.reading g.R.RankRun.standing c.args.lock.now c.args.worker.now c.rest.new.worker c.requires.can (rested.0 ∙ ok.0) (rested.1 ∙ ok.1)
          (rw seat c.requires.can.ready) (ap (λ s. s.own) seat) (λ ample. c.requires.ample);
    }
