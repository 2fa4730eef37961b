use Rattle.std.proofs.Common.{◌≡◌, None, length}
use Rattle.srr_regroup.proofs.Shared.{least_after}
use Rattle.srr_regroup.proofs.coarser.least_shared.Given as goal

abbrev pub invariant-loop-rest : goal.invariant-loop-rest
invariant-loop-rest l = least_after l.two l.rest l.least ≡ least_after l.two l.one None

abbrev pub decreases-loop-rest : goal.decreases-loop-rest
decreases-loop-rest l = length l.rest
