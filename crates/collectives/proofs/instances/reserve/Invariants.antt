use Rattle.std.proofs.Common.{◌≡◌, ℕ, ◌+◌, ◌-◌, get_or, vec_len}
use Rattle.collectives.proofs.instances.reserve.Given as goal

abbrev pub invariant-loop-counts : goal.invariant-loop-counts
invariant-loop-counts l = (other : ℕ) → get_or l.counts.items other 0 ≡ get_or l.initial.counts.items other 0

abbrev pub decreases-loop-counts : goal.decreases-loop-counts
decreases-loop-counts l = (l.rank + 1) - vec_len l.counts
