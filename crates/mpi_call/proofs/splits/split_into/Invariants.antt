use Rattle.std.proofs.Common.{◌≡◌, map, take}
use Rattle.mpi_call.proofs.splits.split_into.Given as goal

abbrev pub invariant-loop-candidate : goal.invariant-loop-candidate
invariant-loop-candidate l = l.ranks ≡ map (λ candidate. candidate.rank) (take l.candidate-index l.candidate-items)
