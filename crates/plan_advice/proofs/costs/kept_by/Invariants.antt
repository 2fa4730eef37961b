use Rattle.std.proofs.Common.{◌≡◌, ◌≤◌, ◌+◌, ◌-◌, ◌*◌, ◌^◌}
use Rattle.run_model.specs.Lists.{world}
use Rattle.plan_advice.specs.inside.Pieces.{block_ranks, kept_by}
use Rattle.plan_advice.proofs.costs.kept_by.Given as goal

abbrev pub invariant-loop-rank : goal.invariant-loop-rank
invariant-loop-rank l = record {
  kept : l.total + kept_by l.begin l.end l.lists (world (l.end - l.rank) l.rank) ≡ kept_by l.begin l.end l.lists (block_ranks l.begin l.end);
  few : l.total ≤ (l.rank - l.begin) * 2 ^ 32;
}
