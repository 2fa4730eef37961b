use Rattle.std.proofs.Common.{◌≡◌, false, length}
use Rattle.requests.specs.Starts.{all_marked}
use Rattle.requests.proofs.first_bad.unmark.Given as goal

abbrev pub invariant-loop-rest : goal.invariant-loop-rest
invariant-loop-rest l = all_marked false l.rest l.row ≡ all_marked false l.starts l.fn.row

abbrev pub decreases-loop-rest : goal.decreases-loop-rest
decreases-loop-rest l = length l.rest
