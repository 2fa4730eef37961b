use Rattle.std.proofs.Common.{◌≡◌, drop, map}
use Rattle.c_program.specs.Values.{value, values}
use Rattle.c_program.specs.View.{pure_expr}
use Rattle.c_run_cells.proofs.Lists.{behind, each}
use Rattle.c_run_cells.proofs.parts.values_of.Given as goal

-- what is found so far, and what is behind it
abbrev pub invariant-loop-expression : goal.invariant-loop-expression
invariant-loop-expression l = values (map pure_expr l.expressions) l.state ≡ behind l.ints (each (λ e. value (pure_expr e) l.state) (drop l.expression-index l.expressions))
