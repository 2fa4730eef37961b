use Rattle.std.proofs.Common.{length}
use Rattle.explore.specs.Explored.{IsListed}
use Rattle.explore.proofs.met.is_listed.Given as goal

abbrev pub invariant-loop-rest : goal.invariant-loop-rest
invariant-loop-rest l = (IsListed l.rest l.found.outcome → IsListed l.listed l.found.outcome) × (IsListed l.listed l.found.outcome → IsListed l.rest l.found.outcome)

abbrev pub decreases-loop-rest : goal.decreases-loop-rest
decreases-loop-rest l = length l.rest
