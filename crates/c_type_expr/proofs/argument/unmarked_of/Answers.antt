use Rattle.std.proofs.Common.{Ok, ℕ, sym}
use Rattle.std.specs.declared.alloc.AllocError.{AllocError}
use Rattle.c_grammar.specs.Tree as tree
use Rattle.c_grammar.specs.View.{view}
use Rattle.c_program.specs.Tree as pure
use Rattle.c_program.specs.View.{pure_expr, pure_reference}
use Rattle.c_scope.proofs.JoinRules.{walked_pair, walked_plain}
use Rattle.c_scope.specs.Scopes.{meaning}
use Rattle.c_type_expr.specs.ExprTyping.{array_typing, int_typing}
use Rattle.c_type_expr.proofs.ArgumentRules.{by_shape}
use Rattle.c_type_expr.proofs.Misfits.{misfit_as}
use Rattle.c_type_expr.proofs.argument.unmarked_of.Goals as goal

pub returns-in-Some-array_sum : goal.returns-in-Some-array_sum
returns-in-Some-array_sum c =
    let name = c.in-Some-array_sum.name in
    let array = array_typing c.args.scope.now c.args.wanted name name (meaning c.args.scope.now name) in
    let operand = int_typing c.args.scope.now (view c.in-Some-array_sum.operand.now) in
    rw (by_shape c.args.scope.now c.args.wanted (view c.args.e.now) c.in_default.ensures, sym c.in-Some-array_sum.ensures)
    (walked_pair c.args.best.now c.array_of.new.best c.int_of.new.best (λ (one : ℕ). one) pure_expr pure_reference pure.from array operand (Ok c.array_of.result) c.int_of.result
    c.both.result c.cells_from.result
    (walked_plain AllocError c.args.best.now c.array_of.new.best c.array_of.result array (rw c.meaning-meant.ensures at c.array_of.ensures)) c.int_of.ensures c.both.ensures
    c.cells_from.ensures)

pub returns-in-None : goal.returns-in-None
returns-in-None c =
    rw (by_shape c.args.scope.now c.args.wanted (view c.args.e.now) c.in_default.ensures, sym c.in-None.ensures)
    (misfit_as c.args.scope.now (tree.value (view c.args.e.now)) pure_reference c.args.best.now c.misfit.new.best c.misfit.result c.misfit.ensures)
