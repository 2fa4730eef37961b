use Rattle.std.proofs.Common.{false, [], ◌∷◌, arith, length-append, refl, slice_index}
use Rattle.run_model.specs.Program.{IsAfter}
use Rattle.wiz_task.proofs.RunLemmas.{each_more, started}
use Rattle.srr_replay.proofs.LogLemmas.{below_at}
use Rattle.srr_replay.proofs.RoundsLemmas.{member_of}
use Rattle.wiz_task.proofs.ranks.start_group.Goals as goal

pub add_rank-requires-clause-member : goal.add_rank-requires-clause-member
add_rank-requires-clause-member c =
    rw c.as_slice-rank-items.ensures
    (below_at c.args.log.now.ranks c.args.log.now.group (slice_index c.args.log.now.group c.loop-rank.rank-index) c.requires.below
    (member_of c.args.log.now.group c.loop-rank.rank-index (rw c.as_slice-rank-items.ensures at c.loop-rank-test.true)))

pub loop-rank-preserved : goal.loop-rank-preserved
loop-rank-preserved c = record {
  as_many = rw c.in_ok-add_rank.ensures (omega (arith, length-append c.loop-rank.runs.items ((record { program = c.args.program.now; ranks = c.args.log.now.ranks; rank = slice_index c.as_slice-rank-items.result.now c.loop-rank.rank-index; replies = []; asked = false }) ∷ []), c.loop-rank.invariant.as_many));
  each = λ k other low.
      rw c.in_ok-add_rank.ensures
      (each_more (λ k run. IsAfter c.args.program.now c.args.log.now.ranks (slice_index c.args.log.now.group k) [] run) c.loop-rank.runs.items (record { program = c.args.program.now; ranks = c.args.log.now.ranks; rank = slice_index c.as_slice-rank-items.result.now c.loop-rank.rank-index; replies = []; asked = false })
      (λ k other low. c.loop-rank.invariant.each k other (omega (arith, low, c.loop-rank.invariant.as_many)))
      (rw (c.loop-rank.invariant.as_many, ← c.as_slice-rank-items.ensures) (started c.args.program.now c.args.log.now.ranks _ _ refl))
      k other (omega (arith, low, c.loop-rank.invariant.as_many)));
}
