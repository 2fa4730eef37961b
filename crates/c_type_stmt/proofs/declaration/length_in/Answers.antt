use Rattle.std.proofs.Common.{Some, ap, refl}
use Rattle.c_grammar.specs.View.{view}
use Rattle.c_grammar.proofs.Viewed.{view-cell}
use Rattle.c_scope.specs.Constants.{length_faults, length_of}
use Rattle.c_scope.specs.Typing.{typed}
use Rattle.c_scope.proofs.OwnFaults.{gives_told}
use Rattle.c_type_stmt.proofs.declaration.length_in.Goals as goal

pub returns-in-Cell : goal.returns-in-Cell
returns-in-Cell c =
    rw (c.in-Cell.is, view-cell)
    (gives_told (length_faults c.args.scope.now (view c.in-Cell.index.value)) (typed (Some (length_of c.args.scope.now (view c.in-Cell.index.value))))
    (record { best = refl; form = ap (λ length. Some (Some length)) (rw c.deref-in-Cell.ensures at c.length_of.ensures) }) (rw c.deref.ensures at c.want_length.ensures)
    c.unless_told.ensures.best c.unless_told.ensures.form)
