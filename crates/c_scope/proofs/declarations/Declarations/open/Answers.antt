use Rattle.std.proofs.Common.{arith}
use Rattle.c_scope.proofs.Hiding.{blocks_few}
use Rattle.c_scope.proofs.declarations.Declarations.open.Goals as goal

pub overflow_add-self : goal.overflow_add-self
overflow_add-self c =
    let few = blocks_few c.self.inside.placed.items in
    let is = c.self.invariant.open_blocks in
    let len = c.in_ok-push.ensures.len in
    omega (arith, few, is, len, c.in_ok-push.ensures.upper_bound)
