use Rattle.std.proofs.Common.{arith}
use Rattle.c_scope.proofs.Hiding.{variable_one, variables_few}
use Rattle.c_scope.proofs.declarations.Declarations.declare.Goals as goal

pub overflow_add-self : goal.overflow_add-self
overflow_add-self c =
    let few = variables_few c.self.inside.placed.items in
    let is = c.self.invariant.variable_count in
    let less = variable_one c.args.entity in
    omega (arith, few, is, less, c.is_variable.ensures, c.reserve.ensures.len, c.in_ok-reserve.ensures.ok)
