use Rattle.std.proofs.Common.{Ok, ℕ}
use Rattle.std.specs.declared.alloc.AllocError.{AllocError}
use Rattle.c_grammar.proofs.Viewed.{view-cell, view-whole}
use Rattle.c_grammar.specs.View.{view}
use Rattle.c_program.specs.Tree as pure
use Rattle.c_program.specs.View.{pure_expr, pure_reference}
use Rattle.c_scope.proofs.Gives.{gives_form, gives_onto}
use Rattle.c_scope.proofs.JoinRules.{walked_pair, walked_plain}
use Rattle.c_scope.specs.Scopes.{meaning}
use Rattle.c_type_expr.specs.ExprTyping.{address_typing, array_typing, int_typing}
use Rattle.c_type_expr.proofs.argument.marked_of.Goals as goal

pub returns-in-Whole : goal.returns-in-Whole
returns-in-Whole c =
    rw (c.in-Whole.is, view-whole)
    (gives_form
    (gives_onto pure.all_of (address_typing c.args.scope.now c.args.wanted c.args.mark c.in-Whole.name (meaning c.args.scope.now c.in-Whole.name))
    (rw c.meaning-meant.ensures at c.address_of.ensures)) c.all_of.ensures)

pub returns-in-Cell : goal.returns-in-Cell
returns-in-Cell c =
    let array = array_typing c.args.scope.now c.args.wanted c.args.mark c.in-Cell.name (meaning c.args.scope.now c.in-Cell.name) in
    let index = int_typing c.args.scope.now (view c.in-Cell.index.value) in
    rw (c.in-Cell.is, view-cell)
    (walked_pair c.args.best.now c.array_of.new.best c.int_of.new.best (λ (one : ℕ). one) pure_expr pure_reference pure.from array index (Ok c.array_of.result) c.int_of.result
    c.both.result c.cells_from.result
    (walked_plain AllocError c.args.best.now c.array_of.new.best c.array_of.result array (rw c.meaning-meant-in-Cell.ensures at c.array_of.ensures))
    (rw c.deref.ensures at c.int_of.ensures) c.both.ensures c.cells_from.ensures)
