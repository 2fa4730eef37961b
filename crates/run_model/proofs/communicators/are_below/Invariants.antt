use Rattle.std.proofs.Common.{◌≡◌, length}
use Rattle.run_model.specs.Lists.{are_below}
use Rattle.run_model.proofs.communicators.are_below.Given as goal

abbrev pub invariant-loop-rest : goal.invariant-loop-rest
invariant-loop-rest l = are_below l.n l.rest ≡ are_below l.n l.members

abbrev pub decreases-loop-rest : goal.decreases-loop-rest
decreases-loop-rest l = length l.rest
