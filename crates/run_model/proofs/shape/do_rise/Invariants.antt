use Rattle.std.proofs.Common.{◌≡◌, length, map}
use Rattle.mpi_call.specs.declared.reply.Item.{Item}
use Rattle.run_model.specs.Shape.{rise_within}
use Rattle.run_model.proofs.shape.do_rise.Given as goal

abbrev pub invariant-loop-rest : goal.invariant-loop-rest
invariant-loop-rest l = rise_within l.low l.len (map (λ (item : Item). item.index) l.rest) ≡ rise_within 0 l.len (map (λ (item : Item). item.index) l.items)

abbrev pub decreases-loop-rest : goal.decreases-loop-rest
decreases-loop-rest l = length l.rest
