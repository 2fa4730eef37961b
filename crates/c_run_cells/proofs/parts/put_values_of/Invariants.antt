use Rattle.std.proofs.Common.{◌≡◌, drop, map}
use Rattle.c_program.specs.Meaning.{put_values}
use Rattle.c_program.specs.Performing.{Onward}
use Rattle.c_program.specs.View.{pure_expr}
use Rattle.c_run_cells.proofs.parts.put_values_of.Given as goal

abbrev pub invariant-loop-expression : goal.invariant-loop-expression
invariant-loop-expression l = record {
  comes : (k : Onward) → put_values (map pure_expr l.expressions) l.first l.initial.state k ≡ put_values (map pure_expr (drop l.expression-index l.expressions)) l.cell l.state k;
  left : l.state.left ≡ l.initial.state.left;
}
