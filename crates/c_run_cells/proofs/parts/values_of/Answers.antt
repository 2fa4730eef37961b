use Rattle.std.proofs.Common.{◌∙◌}
use Rattle.c_program.specs.Values.{value}
use Rattle.c_program.specs.View.{pure_expr}
use Rattle.c_run_cells.proofs.Lists.{behind-none, each, each-values}
use Rattle.c_run_cells.proofs.parts.values_of.Goals as goal

pub loop-expression-init : goal.loop-expression-init
loop-expression-init c = rw c.new-ints.ensures (each-values c.args.expressions.now c.args.state.now ∙ behind-none (each (λ e. value (pure_expr e) c.args.state.now) c.args.expressions.now))
