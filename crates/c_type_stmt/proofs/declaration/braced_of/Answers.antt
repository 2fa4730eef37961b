use Rattle.std.proofs.Common.{None, Ok, ◌∙◌, ap, length, map}
use Rattle.c_grammar.specs.StmtView.{comma_list_view}
use Rattle.c_grammar.specs.View.{view}
use Rattle.c_program.specs.Tree as pure
use Rattle.c_program.specs.View.{pure_expr, pure_initial}
use Rattle.c_scope.specs.Least.{least_fault_from}
use Rattle.c_scope.specs.Signatures.{listed}
use Rattle.c_scope.specs.Typing.{onto}
use Rattle.c_scope.proofs.Gives.{walked_onto}
use Rattle.c_type_stmt.specs.Declarations.{braces_faults}
use Rattle.c_type_stmt.specs.StmtTyping.{values_typing}
use Rattle.c_scope.proofs.Rows.{count_viewed}
use Rattle.c_scope.proofs.OwnFaults.{gives_told_as}
use Rattle.c_type_stmt.proofs.declaration.braced_of.Goals as goal

pub returns : goal.returns
returns c =
    let values = listed (comma_list_view view c.args.values.now) in
    gives_told_as c.in_ok-found.found pure_initial (braces_faults c.args.name c.args.entity (length values)) (onto pure.values (values_typing c.args.scope.now values))
    (walked_onto _ _ (λ all. map pure_expr all.items) pure_initial pure.values (values_typing c.args.scope.now values) c.values_of.result (Ok c.in_ok-found.found) c.values_of.ensures c.in_ok-found.ensures)
    (c.want_braces.ensures ∙ ap (λ count. least_fault_from None (braces_faults c.args.name c.args.entity count)) (c.item_count.ensures ∙ count_viewed view c.args.values.now))
    c.unless_told.ensures.best c.unless_told.ensures.form
