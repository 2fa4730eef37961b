use Rattle.std.proofs.Common.{arith}
use Rattle.mpi_call.proofs.SplitLemmas.{chosen_step}
use Rattle.mpi_call.proofs.splits.candidates.Goals as goal

pub loop-place-preserved : goal.loop-place-preserved
loop-place-preserved c =
    chosen_step _ c.args.members.now c.args.inputs.now c.loop-place.place c.loop-place.found.items c.add_coloured.new.found.items c.index-inputs-place.result
    (omega arith) c.requires c.index-inputs-place.is c.loop-place.invariant c.in_ok-add_coloured.ensures
