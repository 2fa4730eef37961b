use Rattle.std.proofs.Common.{◌≡◌, None, length, map}
use Rattle.c_run_cells.specs.inside.Named.{cells_named}
use Rattle.c_run_cells.specs.SlotView.{slot_view}
use Rattle.c_run_cells.proofs.state.cells_named.Given as goal

abbrev pub invariant-loop-rest : goal.invariant-loop-rest
invariant-loop-rest l = cells_named l.name l.found (map slot_view l.rest) ≡ cells_named l.name None (map slot_view l.slots)

abbrev pub decreases-loop-rest : goal.decreases-loop-rest
decreases-loop-rest l = length l.rest
