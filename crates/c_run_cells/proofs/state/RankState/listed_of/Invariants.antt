use Rattle.std.proofs.Common.{◌≡◌, ◌++◌, length, map}
use Rattle.c_program.specs.Courses.{listed_of}
use Rattle.c_run_cells.specs.SlotView.{slot_view}
use Rattle.c_run_cells.proofs.state.RankState.listed_of.Given as goal

abbrev pub invariant-loop-rest : goal.invariant-loop-rest
invariant-loop-rest l = l.found ++ listed_of l.self (map slot_view l.rest) ≡ listed_of l.self (map slot_view l.slots)

abbrev pub decreases-loop-rest : goal.decreases-loop-rest
decreases-loop-rest l = length l.rest
