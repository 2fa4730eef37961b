use Rattle.std.proofs.Common.{rules, arith, ◌≡◌, ◌++◌, ◌∷◌, [], ℕ, length, sym}
use Rattle.turn_lock.specs.Seats.{IsIdleSeat}
use Rattle.rank_threads.specs.inside.Workers.{IsWorker}
use Rattle.rank_threads.proofs.Workers.{AtPlace, beside_snoc}
use Rattle.rank_threads.proofs.Places.{each_init, each_last, each_snoc, length-last}
use Rattle.rank_threads.proofs.rounds.seats_and_runs.Goals as goal

pub loop-worker-preserved : goal.loop-worker-preserved
loop-worker-preserved g c =
    let inv = c.loop-worker.invariant in
    let reading = g.M.Attempts.reading in let standing = g.R.RankRun.standing in
    let lock = c.args.lock.now in let ranks = c.args.ranks.now in
    let one = c.in-Some.worker in
    let rest = c.pop.new.self.items in
    let is : c.loop-worker.workers.items ≡ rest ++ one ∷ [] = c.in-Some.ensures.items in
    let n = length-last rest c.loop-worker.workers.items one is in
    let seats_are : c.push.new.self.items ≡ c.loop-worker.seats.items ++ one.seat ∷ [] = c.in_ok-push.ensures.items in
    let runs_are : c.push-in-Some.new.self.items ≡ c.loop-worker.runs.items ++ one.run ∷ [] = c.in_ok-push-2.ensures.items in
    let m = length-last c.loop-worker.seats.items c.push.new.self.items one.seat seats_are in
    let total = inv.total in
    let k : ℕ = length c.loop-worker.seats.items in
    let p : IsWorker reading standing lock ranks k one =
    each_last (AtPlace reading standing lock ranks) rest c.loop-worker.workers.items one is inv.workers k (omega (arith, n, total)) in
    record {
      total = omega (arith, n, m, total);
      workers = each_init (AtPlace reading standing lock ranks) rest c.loop-worker.workers.items one is inv.workers;
      idle = each_snoc (IsIdleSeat lock) c.loop-worker.seats.items c.push.new.self.items one.seat seats_are inv.idle (p.can.ready.lock_is, p.can.ready.idle, p.number);
      beside = beside_snoc reading standing lock ranks c.loop-worker.seats.items c.push.new.self.items c.loop-worker.runs.items c.push-in-Some.new.self.items one.seat one.run seats_are runs_are inv.beside
          (rw (sym p.rank) (p.can.beside c.if-is_short.false));
    }

pub returns-clause-idle : goal.returns-clause-idle
returns-clause-idle g c =
    let inv = c.loop-worker.invariant in
    let none : length c.loop-worker.workers.items ≡ 0 = search rules in
    let total = inv.total in
    let count = c.requires.count.0 in
    let as_many : length c.loop-worker.seats.items ≡ c.args.lock.now.seats = omega (arith, none, total, count) in
    (as_many, λ k d lt. inv.idle k d (omega (arith, as_many, lt)))
