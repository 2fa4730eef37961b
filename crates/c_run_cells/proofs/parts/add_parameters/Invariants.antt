use Rattle.std.proofs.Common.{◌≡◌, drop, true}
use Rattle.c_program.specs.Meaning.{has_room, parameter_cells, with_parameters}
use Rattle.c_run_cells.proofs.parts.add_parameters.Given as goal

abbrev pub invariant-loop-i : goal.invariant-loop-i
invariant-loop-i l = record {
  comes : with_parameters l.parameters l.arguments l.initial.state ≡ with_parameters (drop l.i l.parameters) (drop l.i l.arguments) l.state;
  room : has_room (parameter_cells (drop l.i l.parameters)) l.state ≡ true;
}
