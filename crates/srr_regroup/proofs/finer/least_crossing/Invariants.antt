use Rattle.std.proofs.Common.{◌≡◌, ◌<◌, [], false, ℕ}
use Rattle.std.specs.List.{slice_index_or}
use Rattle.srr_regroup.specs.Refining.{crosses}
use Rattle.srr_regroup.proofs.finer.least_crossing.Given as goal

abbrev pub invariant-loop-number : goal.invariant-loop-number
invariant-loop-number l = (other : ℕ) → other < l.number → crosses l.group (slice_index_or l.plan other []) ≡ false
