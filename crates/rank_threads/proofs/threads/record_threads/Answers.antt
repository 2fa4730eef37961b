use Rattle.std.proofs.Common.{rules, ◌≡◌, ◌∙◌, ℕ, ap, arith, length, slice_index, sym, subst}
use Rattle.rank_threads.specs.inside.Readings.{machine_reading}
use Rattle.rank_threads.specs.inside.Numbered.{numbered}
use Rattle.rank_threads.specs.inside.Workers.{AreRunsAfter}
use Rattle.group_plan.specs.Plans.{number_of_ranks}
use Rattle.run_model.specs.Lists.{world}
use Rattle.run_model.proofs.CommunicatorLaws.{length-world}
use Rattle.rank_threads.proofs.Runs.{are_runs, seated_world, start_runs, world_at}
use Rattle.rank_threads.proofs.threads.record_threads.Goals as goal

pub run-requires-clause-few : goal.run-requires-clause-few
run-requires-clause-few g c κs within =
    let same : c.as_slice.result.now ≡ world c.n.result 0 = c.as_slice.ensures ∙ c.in_ok-ranks.ensures in
    let count = ap (λ l. length l) same ∙ length-world c.n.result 0 in
    let n = c.n.ensures.ranks in
    let some = c.n.ensures.plan.some in
    let few = c.n.ensures.plan.few in
    (omega (arith, count, n, some), omega (arith, count, n, few))

pub run-requires-clause-seated : goal.run-requires-clause-seated
run-requires-clause-seated g c κs within =
    let n : c.in_ok-machine.machine.value.ranks ≡ c.n-2.result = ap (λ m. m.ranks) (c.in_ok-machine.ensures.ok ∙ c.in_ok-new.ensures) in
    let m : c.n.result ≡ c.n-2.result = search rules in
    seated_world (c.in_ok-machine.machine.value.program, c.in_ok-machine.machine.value.ranks) _ (c.as_slice.ensures ∙ c.in_ok-ranks.ensures ∙ ap (λ ranks. world ranks 0) (m ∙ sym n))

pub run-requires-clause-runs : goal.run-requires-clause-runs
run-requires-clause-runs g c κs within =
    let made = c.in_ok-machine.ensures.ok ∙ c.in_ok-new.ensures in
    let n : c.in_ok-machine.machine.value.ranks ≡ c.n-2.result = ap (λ m. m.ranks) made in
    let m : c.n.result ≡ c.n-2.result = search rules in
    let all : c.n-2.result ≡ number_of_ranks c.args.plan.now = c.n-2.ensures.ranks in
    start_runs g.R.RankRun.standing c.args.program.now _ _ _ (c.as_slice.ensures ∙ c.in_ok-ranks.ensures ∙ ap (λ ranks. world ranks 0) (m ∙ sym n))
    (ap (λ m. m.program) made) (rw (n ∙ all) c.requires.runs)

pub finish_record-requires-clause-runs : goal.finish_record-requires-clause-runs
finish_record-requires-clause-runs g c =
    let machine = c.in_ok-recorder.recorder.machine.value in
    let ranks = c.as_slice.result.now in
    let frame = c.in_ok-recorder.ensures.frame in
    let same : ranks ≡ world c.n.result 0 = c.as_slice.ensures ∙ c.in_ok-ranks.ensures in
    let n : machine.ranks ≡ c.n-2.result = ap (λ f. f.1) frame ∙ ap (λ m. m.ranks) (c.in_ok-machine.ensures.ok ∙ c.in_ok-new.ensures) in
    let m : c.n-2.result ≡ c.n.result = search rules in
    let count : length ranks ≡ machine.ranks = ap (λ l. length l) same ∙ (length-world c.n.result 0 ∙ sym (n ∙ m)) in
    rw c.into_inner.ensures (
    are_runs g.R.RankRun.standing machine.program machine.ranks ranks machine.events c.in_ok-recorder.runs.items count
    (λ k lt. ap (λ l. slice_index l k) same ∙ world_at c.n.result k (let e = n ∙ m in omega (arith, e, lt)))
    (subst (λ f. AreRunsAfter machine_reading g.R.RankRun.standing f ranks (numbered (λ (rank : ℕ). rank) machine.events) c.in_ok-recorder.runs.items) (sym frame) c.in_ok-recorder.ensures.runs))
