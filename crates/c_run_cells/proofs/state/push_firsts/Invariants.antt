use Rattle.std.proofs.Common.{◌≡◌, ◌++◌}
use Rattle.c_program.specs.Meaning.{repeated}
use Rattle.c_program.specs.State.{first_cells}
use Rattle.c_run_cells.proofs.state.push_firsts.Given as goal

abbrev pub invariant-loop-i : goal.invariant-loop-i
invariant-loop-i l = l.cells.items ≡ l.initial.cells.items ++ repeated l._i (first_cells l.kind)
