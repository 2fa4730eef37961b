-- Variables without where their names lie in memory.
use Rattle.c_program.specs.State as kept
use Rattle.c_run_cells.specs.declared.state.Slot.{Slot}

-- a variable as definitions see it
abbrev pub slot_view : Slot → kept.Slot
slot_view slot = record { depth = slot.depth; name = slot.name.now; is_listed = slot.is_listed; cells = slot.cells }
