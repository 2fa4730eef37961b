use Rattle.std.proofs.Common.{rules, arith, ◌≡◌, ◌++◌, ◌∷◌, ◌∙◌, [], length, sym}
use Rattle.rank_threads.proofs.Workers.{AtPlace, FreshAt, StartsAt, fresh_seats, worker_new, start_runs}
use Rattle.rank_threads.proofs.Places.{each_init, each_last, each_snoc, length-last}
use Rattle.rank_threads.proofs.rounds.workers_of.Goals as goal

pub loop-seat-init : goal.loop-seat-init
loop-seat-init g c =
    let reading = g.M.Attempts.reading in let standing = g.R.RankRun.standing in
    let count = c.requires.as_many in
    let fresh = c.requires.seats in
    record {
      count = count ∙ sym (fresh.1.0 ∙ fresh.0);
      total = search rules;
      seats = fresh_seats reading standing c.args.lock.now c.args.seats.items fresh.1;
      runs = start_runs reading standing c.args.lock.now c.args.ranks.now c.args.runs.items count c.requires.runs;
      workers = search rules;
    }

pub loop-seat-preserved : goal.loop-seat-preserved
loop-seat-preserved g c =
    let inv = c.loop-seat.invariant in
    let reading = g.M.Attempts.reading in let standing = g.R.RankRun.standing in
    let lock = c.args.lock.now in let ranks = c.args.ranks.now in
    let seats = c.pop.new.self.items in let runs = c.pop-in-Some.new.self.items in
    let seats_are : c.loop-seat.seats.items ≡ seats ++ c.in-Some.seat ∷ [] = c.in-Some.ensures.items in
    let runs_are : c.loop-seat.runs.items ≡ runs ++ c.in-Some-pop.run' ∷ [] = c.in-Some-pop.ensures.items in
    let n = length-last seats c.loop-seat.seats.items c.in-Some.seat seats_are in
    let m = length-last runs c.loop-seat.runs.items c.in-Some-pop.run' runs_are in
    let count = inv.count in let total = inv.total in
    let as_many : length runs ≡ length seats = omega (arith, n, m, count) in
    let pushed = length-last c.loop-seat.workers.items c.push.new.self.items _ c.in_ok-push.ensures.items in
    record {
      count = as_many;
      total = omega (arith, pushed, total, n);
      seats = each_init (FreshAt reading standing lock) seats c.loop-seat.seats.items c.in-Some.seat seats_are inv.seats;
      runs = each_init (StartsAt reading standing lock ranks) runs c.loop-seat.runs.items c.in-Some-pop.run' runs_are inv.runs;
      workers = each_snoc (AtPlace reading standing lock ranks) c.loop-seat.workers.items c.push.new.self.items _ c.in_ok-push.ensures.items inv.workers
          (λ k at.
          let here : k ≡ length seats = omega (arith, at, total, n) in
          let there : k ≡ length runs = here ∙ sym as_many in
          let run = each_last (StartsAt reading standing lock ranks) runs c.loop-seat.runs.items c.in-Some-pop.run' runs_are inv.runs in
          let seat = each_last (FreshAt reading standing lock) seats c.loop-seat.seats.items c.in-Some.seat seats_are inv.seats in
          worker_new reading standing lock ranks k _ (rw here seat) (rw here (search rules)) (omega (arith, at)) c.requires.seated (rw there run));
    }
