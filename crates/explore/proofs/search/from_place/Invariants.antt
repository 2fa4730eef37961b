use Rattle.std.proofs.Common.{◌≡◌, ◌++◌, drop, length}
use Rattle.explore.proofs.search.from_place.Given as goal

abbrev pub invariant-loop-rest : goal.invariant-loop-rest
invariant-loop-rest l = l.left ++ l.rest ≡ drop l.place l.states

abbrev pub decreases-loop-rest : goal.decreases-loop-rest
decreases-loop-rest l = length l.rest
