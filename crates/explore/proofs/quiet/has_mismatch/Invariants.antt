use Rattle.std.proofs.Common.{◌≡◌, length}
use Rattle.explore.specs.QuietFirst.{has_mismatch}
use Rattle.explore.proofs.quiet.has_mismatch.Given as goal

abbrev pub invariant-loop-rest : goal.invariant-loop-rest
invariant-loop-rest l = has_mismatch l.rest ≡ has_mismatch l.listed

abbrev pub decreases-loop-rest : goal.decreases-loop-rest
decreases-loop-rest l = length l.rest
