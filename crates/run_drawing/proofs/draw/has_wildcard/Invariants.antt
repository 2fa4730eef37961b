use Rattle.std.proofs.Common.{◌≡◌, length, slice_index}
use Rattle.std.specs.List.{list_any}
use Rattle.mpi_call.specs.declared.reply.Item.{Item}
use Rattle.causes.specs.Positions.{start_position}
use Rattle.run_drawing.specs.Drawings.{is_wildcard_at}
use Rattle.run_drawing.proofs.draw.has_wildcard.Given as goal

abbrev pub invariant-loop-rest : goal.invariant-loop-rest
invariant-loop-rest l =
    list_any (λ (item : Item). is_wildcard_at l.scene.causes.events (start_position l.scene.causes.events l.rank (slice_index l.starts item.index))) l.rest
    ≡ list_any (λ (item : Item). is_wildcard_at l.scene.causes.events (start_position l.scene.causes.events l.rank (slice_index l.starts item.index))) l.items

abbrev pub decreases-loop-rest : goal.decreases-loop-rest
decreases-loop-rest l = length l.rest
