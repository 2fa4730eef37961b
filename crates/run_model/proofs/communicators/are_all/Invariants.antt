use Rattle.std.proofs.Common.{◌≡◌, ◌≤◌, ◌-◌, length}
use Rattle.run_model.specs.Lists.{same_ranks, world}
use Rattle.run_model.proofs.communicators.are_all.Given as goal

abbrev pub invariant-loop-rest : goal.invariant-loop-rest
invariant-loop-rest l =
    record {
      within : l.rank ≤ l.n;
      rest : same_ranks (world (l.n - l.rank) l.rank) l.rest ≡ same_ranks (world l.n 0) l.members;
    }

abbrev pub decreases-loop-rest : goal.decreases-loop-rest
decreases-loop-rest l = length l.rest
