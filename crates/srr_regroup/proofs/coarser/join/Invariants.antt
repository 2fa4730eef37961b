use Rattle.std.proofs.Common.{length}
use Rattle.srr_regroup.proofs.Made.{AreMade}
use Rattle.srr_regroup.proofs.coarser.join.Given as goal

abbrev pub invariant-loop-rest : goal.invariant-loop-rest
invariant-loop-rest l = AreMade l.one l.two l.first.events.events l.second.events.events l.lists l.rest

abbrev pub decreases-loop-rest : goal.decreases-loop-rest
decreases-loop-rest l = length l.rest
