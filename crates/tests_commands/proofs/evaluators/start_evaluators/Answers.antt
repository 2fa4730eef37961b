use Rattle.std.proofs.Common.{[], ◌∷◌, arith, length-append, slice_index}
use Rattle.run_model.specs.Program.{IsAfter}
use Rattle.wiz_task.proofs.RunLemmas.{each_more, started}
use Rattle.srr_replay.proofs.LogLemmas.{below_at}
use Rattle.srr_replay.proofs.RoundsLemmas.{member_of}
use Rattle.tests_commands.proofs.evaluators.start_evaluators.Goals as goal

pub start-requires-clause-member : goal.start-requires-clause-member
start-requires-clause-member c =
    rw c.as_slice-rank-items.ensures
    (below_at c.args.log.now.ranks c.args.log.now.group (slice_index c.args.log.now.group c.loop-rank.rank-index) c.requires.below
    (member_of c.args.log.now.group c.loop-rank.rank-index (rw c.as_slice-rank-items.ensures at c.loop-rank-test.true)))

pub loop-rank-preserved : goal.loop-rank-preserved
loop-rank-preserved c = record {
  as_many = rw c.in_ok-push.ensures.items (omega (arith, length-append c.loop-rank.runs.items (c.in_ok-start.field-0 ∷ []), c.loop-rank.invariant.as_many));
  each = λ k other low.
      rw c.in_ok-push.ensures.items
      (each_more (λ k run. IsAfter c.args.program.now c.args.log.now.ranks (slice_index c.args.log.now.group k) [] run) c.loop-rank.runs.items c.in_ok-start.field-0
      (λ k other low. c.loop-rank.invariant.each k other (omega (arith, low, c.loop-rank.invariant.as_many)))
      (rw (c.loop-rank.invariant.as_many, ← c.as_slice-rank-items.ensures) (started c.args.program.now c.args.log.now.ranks _ c.in_ok-start.field-0 c.in_ok-start.ensures))
      k other (omega (arith, low, c.loop-rank.invariant.as_many)));
}
