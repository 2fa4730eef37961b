use Rattle.std.proofs.Common.{◌≡◌}
use Rattle.srr_regroup.proofs.Made.{in_both_below}
use Rattle.srr_regroup.proofs.coarser.both_groups.Given as goal

abbrev pub invariant-loop-rank : goal.invariant-loop-rank
invariant-loop-rank l = l.group ≡ in_both_below l.one l.two l.rank
