use Rattle.std.proofs.Common.{◌≡◌}
use Rattle.c_program.specs.State.{values_from}
use Rattle.c_run_cells.proofs.state.RankState.values_from.Given as goal

abbrev pub invariant-loop-i : goal.invariant-loop-i
invariant-loop-i l = l.found ≡ values_from l.from l.i l.self
