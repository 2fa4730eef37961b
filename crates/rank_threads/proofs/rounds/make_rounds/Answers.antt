use Rattle.std.proofs.Common.{rules, arith, ◌≡◌, ◌∙◌, ap, drop, length}
use Rattle.rank_threads.proofs.Workers.{all_can, all_worked}
use Rattle.rank_threads.proofs.Places.{written}
use Rattle.rank_threads.proofs.rounds.make_rounds.Goals as goal

pub make_round-requires-after_bounds : goal.make_round-requires-after_bounds
make_round-requires-after_bounds g c κs within =
    let inv = c.loop.invariant in
    let same : c.as_mut_slice.result.now ≡ c.loop.workers.items = c.as_mut_slice.ensures.value in
    let count : length c.as_mut_slice.result.now ≡ length c.args.ranks.now = ap (λ l. length l) same ∙ inv.count in (
      (let some = c.requires.some in omega (arith, count, some)),
      all_can g.M.Attempts.reading g.R.RankRun.standing c.args.lock.now c.args.ranks.now c.as_mut_slice.result.now count (rw same inv.workers),
    )

pub returns-then-not-goes_on-clause-workers : goal.returns-then-not-goes_on-clause-workers
returns-then-not-goes_on-clause-workers g c =
    let inv = c.loop.invariant in
    let reading = g.M.Attempts.reading in let standing = g.R.RankRun.standing in
    let same : c.as_mut_slice.result.now ≡ c.loop.workers.items = c.as_mut_slice.ensures.value in
    let as_many : length c.make_round.new.workers ≡ length c.as_mut_slice.result.now = search rules in
    let now = written c.make_round.new.workers (drop (length c.make_round.new.workers) c.loop.workers.items) c.loop.workers.len (search rules) in
    rw now (all_worked reading standing c.args.lock.now c.args.ranks.now c.as_mut_slice.result.now c.make_round.new.workers as_many c.make_round.ensures (rw same inv.workers))

pub loop-preserved : goal.loop-preserved
loop-preserved g c =
    let inv = c.loop.invariant in
    let reading = g.M.Attempts.reading in let standing = g.R.RankRun.standing in
    let same : c.as_mut_slice.result.now ≡ c.loop.workers.items = c.as_mut_slice.ensures.value in
    let as_many : length c.make_round.new.workers ≡ length c.as_mut_slice.result.now = search rules in
    let now = written c.make_round.new.workers (drop (length c.make_round.new.workers) c.loop.workers.items) c.loop.workers.len (search rules) in
    record {
      count = rw now (as_many ∙ (ap (λ l. length l) same ∙ inv.count));
      workers = rw now (all_worked reading standing c.args.lock.now c.args.ranks.now c.as_mut_slice.result.now c.make_round.new.workers as_many c.make_round.ensures (rw same inv.workers));
    }
