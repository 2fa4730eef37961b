use Rattle.std.proofs.Common.{◌≡◌, ◌+◌, ◌≤◌, drop}
use Rattle.c_program.specs.Meaning.{parameter_cells}
use Rattle.c_run_cells.proofs.parts.cells_for.Given as goal

abbrev pub invariant-loop-parameter : goal.invariant-loop-parameter
invariant-loop-parameter l = record {
  counted : l.cells + parameter_cells (drop l.parameter-index l.parameters) ≡ parameter_cells l.parameters;
  few : l.cells ≤ l.parameter-index;
}
