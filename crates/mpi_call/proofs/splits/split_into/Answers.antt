use Rattle.std.proofs.Common.{arith}
use Rattle.std.proofs.lemmas.Int.{to_z-of_z}
use Rattle.mpi_call.proofs.SplitLemmas.{ranks_of_sorted, all_taken}
use Rattle.mpi_call.proofs.splits.split_into.Goals as goal

pub returns : goal.returns
returns c =
    ranks_of_sorted c.args.colour c.args.members.now c.args.inputs.now c.in_ok-found.found.items c.sort.new.candidates.items c.loop-candidate.ranks
    (grind (arith, to_z-of_z)) c.in_ok-sort.ensures
    (all_taken (λ candidate. candidate.rank) c.loop-candidate.ranks c.as_slice-candidate-items.result.now c.sort.new.candidates.items c.loop-candidate.candidate-index
    (omega arith) c.as_slice-candidate-items.ensures.value c.loop-candidate.invariant)
