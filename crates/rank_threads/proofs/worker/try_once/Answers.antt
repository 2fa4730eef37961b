use Rattle.std.proofs.Common.{◌∙◌, ap}
use Rattle.rank_threads.proofs.Steps.{gains, may_give_run, stays}
use Rattle.rank_threads.proofs.worker.try_once.Goals as goal

pub give_reply-requires-clause-shape : goal.give_reply-requires-clause-shape
give_reply-requires-clause-shape g c =
    let ok = c.attempt.ensures in
    let one = c.args.worker.now in
    rw ok.rest.1 (may_give_run g.M.Attempts.reading g.P.Program.next c.args.lock.now one.rank one.seat.own (g.R.RankRun.standing one.run) c.in-Replied.reply
    (c.requires.can.beside c.requires.ample) (ok.shape c.in-Replied.reply c.in-Replied.is))

pub returns-then-give_reply-clause-worked : goal.returns-then-give_reply-clause-worked
returns-then-give_reply-clause-worked g c =
    let ok = c.attempt.ensures in
    let took = c.give_reply.ensures in
    let given = took.given c.if-give_reply.true in
    let one = c.args.worker.now in
    record {
      rank = took.rank ∙ ok.rest.0;
      number = took.number ∙ ok.number;
      can = gains g.M.Attempts.reading g.R.RankRun.standing c.args.lock.now one c.give_reply.new.worker c.in-Replied.reply c.requires.can c.requires.ample
          (took.rank ∙ ok.rest.0) (rw ok.rest.1 at given.2) (rw ok.rest.0 at took.ready)
          (rw (given.1) (rw c.in-Replied.is at ok.own));
    }

pub returns-then-sleep-clause-worked : goal.returns-then-sleep-clause-worked
returns-then-sleep-clause-worked g c =
    let ok = c.attempt.ensures in
    let slept = c.sleep.ensures in
    record {
      rank = slept.0 ∙ ok.rest.0;
      number = ap (λ s. s.number) slept.2 ∙ ok.number;
      can = stays g.M.Attempts.reading g.R.RankRun.standing c.args.lock.now c.args.worker.now c.sleep.new.worker c.requires.can (slept.0 ∙ ok.rest.0) (slept.1 ∙ ok.rest.1)
          (rw slept.2 ok.ready) (ap (λ s. s.own) slept.2 ∙ (rw c.in-Waits.is at ok.own)) (λ ample. c.requires.ample);
    }

pub returns-in-Waits-clause-worked : goal.returns-in-Waits-clause-worked
returns-in-Waits-clause-worked g c =
    let ok = c.attempt.ensures in
    let slept = c.sleep.ensures in
    record {
      rank = slept.0 ∙ ok.rest.0;
      number = ap (λ s. s.number) slept.2 ∙ ok.number;
      can = stays g.M.Attempts.reading g.R.RankRun.standing c.args.lock.now c.args.worker.now c.sleep.new.worker c.requires.can (slept.0 ∙ ok.rest.0) (slept.1 ∙ ok.rest.1)
          (rw slept.2 ok.ready) (ap (λ s. s.own) slept.2 ∙ (rw c.in-Waits.is at ok.own)) (λ ample. c.requires.ample);
    }

pub returns-in-Stops-clause-worked : goal.returns-in-Stops-clause-worked
returns-in-Stops-clause-worked g c =
    let ok = c.attempt.ensures in
    record {
      rank = ok.rest.0;
      number = ok.number;
      can = stays g.M.Attempts.reading g.R.RankRun.standing c.args.lock.now c.args.worker.now _ c.requires.can ok.rest.0 ok.rest.1 ok.ready
          (rw c.in-Stops.is at ok.own) (λ ample. c.requires.ample);
    }
