use Rattle.std.proofs.Common.{◌≡◌, ◌++◌, length}
use Rattle.explore.proofs.tries.copy_of.Given as goal

abbrev pub invariant-loop-rest : goal.invariant-loop-rest
invariant-loop-rest l = l.copy ++ l.rest ≡ l.turns

abbrev pub decreases-loop-rest : goal.decreases-loop-rest
decreases-loop-rest l = length l.rest
