use Rattle.std.proofs.Common.{◌∙◌, sym}
use Rattle.srr_regroup.proofs.Made.{both_more, both_same}
use Rattle.srr_regroup.proofs.coarser.both_groups.Goals as goal
use Rattle.srr_regroup.proofs.coarser.both_groups.Goals.{then-is_in_either+in_ok-push, else-is_in_either}

pub loop-rank-preserved : goal.loop-rank-preserved
loop-rank-preserved c =
    elim c.if-is_in_either.branch [
      | then-is_in_either+in_ok-push w ↦
          both_more c.args.one.now c.args.two.now c.loop-rank.rank c.loop-rank.group c.if-is_in_either.group (sym w.if-is_in_either.ensures) c.loop-rank.invariant
          (w.group-is ∙ w.in_ok-push.ensures.ok)
      | else-is_in_either w ↦
          both_same c.args.one.now c.args.two.now c.loop-rank.rank c.if-is_in_either.group (sym w.if-is_in_either.ensures) (w.group-is ∙ c.loop-rank.invariant)
    ]
