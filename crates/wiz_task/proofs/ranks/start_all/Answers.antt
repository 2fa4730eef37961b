use Rattle.std.proofs.Common.{false, [], ◌∷◌, arith, length-append, refl}
use Rattle.run_model.specs.Program.{IsAfter}
use Rattle.wiz_task.proofs.RunLemmas.{each_more, started}
use Rattle.wiz_task.proofs.ranks.start_all.Goals as goal

pub loop-rank-preserved : goal.loop-rank-preserved
loop-rank-preserved c = record {
  as_many = rw c.in_ok-add_rank.ensures (omega (arith, length-append c.loop-rank.runs.items ((record { program = c.args.program.now; ranks = c.args.n; rank = c.loop-rank.rank; replies = []; asked = false }) ∷ []), c.loop-rank.invariant.as_many));
  each = λ k other low.
      rw c.in_ok-add_rank.ensures
      (each_more (λ k run. IsAfter c.args.program.now c.args.n k [] run) c.loop-rank.runs.items (record { program = c.args.program.now; ranks = c.args.n; rank = c.loop-rank.rank; replies = []; asked = false })
      (λ k other low. c.loop-rank.invariant.each k other (omega (arith, low, c.loop-rank.invariant.as_many)))
      (rw c.loop-rank.invariant.as_many (started c.args.program.now c.args.n c.loop-rank.rank _ refl))
      k other (omega (arith, low, c.loop-rank.invariant.as_many)));
}
