use Rattle.std.proofs.Common.{◌≡◌, ◌∙◌, ap, arith, sym, subst}
use Rattle.run_model.proofs.FewRanks.{few_ranks}
use Rattle.srr_replay.proofs.RoundsLemmas.{member_of}
use Rattle.rank_threads.specs.inside.Readings.{replay_reading}
use Rattle.rank_threads.specs.inside.Numbered.{numbered, place_in}
use Rattle.rank_threads.specs.inside.Workers.{AreRunsAfter}
use Rattle.rank_threads.proofs.Runs.{run_all}
use Rattle.rank_threads.proofs.Numbers.{place_at}
use Rattle.rank_threads.proofs.threads.replay_threads.Goals as goal

pub run-requires-clause-few : goal.run-requires-clause-few
run-requires-clause-few g c κs within =
    let log = c.requires.log in
    let group = c.args.log.now.group in
    let short = few_ranks c.args.log.now.ranks group log.below log.distinct in
    let few = log.few in
    rw (c.as_slice.ensures) (log.some, omega (arith, short, few))

pub run-requires-clause-seated : goal.run-requires-clause-seated
run-requires-clause-seated g c κs within = λ k lt.
    let log = c.args.log.now in
    let same : c.in_ok-replay.replay.value.log ≡ log = ap (λ r. r.log) (c.in_ok-replay.ensures.ok ∙ c.in_ok-new.ensures) in
    let group : c.as_slice.result.now ≡ log.group = c.as_slice.ensures in
    rw (same, group) (member_of log.group k (rw group at lt), place_at log.group k c.requires.log.distinct (rw group at lt))

pub finish_replay-requires : goal.finish_replay-requires
finish_replay-requires g c =
    let replay = c.in_ok-replayer.replayer.replay.value in
    let frame = c.in_ok-replayer.ensures.frame in
    let group = c.as_slice.result.now in
    let log : replay.log ≡ c.args.log.now = ap (λ f. f.1) frame ∙ ap (λ r. r.log) (c.in_ok-replay.ensures.ok ∙ c.in_ok-new.ensures) in
    let are = subst (λ f. AreRunsAfter replay_reading g.R.RankRun.standing f group (numbered (place_in replay.log.group) replay.events) c.in_ok-replayer.runs.items) (sym frame) c.in_ok-replayer.ensures.runs in
    let same : group ≡ replay.log.group = c.as_slice.ensures ∙ sym (ap (λ l. l.group) log) in
    record {
      runs = rw c.into_inner.ensures (run_all g.R.RankRun.standing replay.program replay.log replay.stop replay.events c.in_ok-replayer.runs.items (rw log c.requires.log.distinct) (rw same at are));
    }
