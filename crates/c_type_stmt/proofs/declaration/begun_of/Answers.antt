use Rattle.std.proofs.Common.{Ok, refl}
use Rattle.c_grammar.specs.StmtView.{right_view}
use Rattle.c_lex.specs.declared.fault.Why.TheVariants.{WrongType}
use Rattle.c_program.specs.Tree as pure
use Rattle.c_program.specs.View.{pure_initial, pure_right}
use Rattle.c_scope.specs.Typing.{onto}
use Rattle.c_scope.proofs.Gives.{walked_onto}
use Rattle.c_type_expr.specs.CallTyping.{right_typing}
use Rattle.c_type_stmt.specs.Declarations.{begun_takes}
use Rattle.c_scope.proofs.OwnFaults.{gives_well}
use Rattle.c_type_stmt.proofs.declaration.begun_of.Goals as goal

pub returns : goal.returns
returns c =
    let right = right_typing c.args.scope.now (begun_takes c.args.kind) (right_view c.args.right.now) in
    gives_well c.in_ok-found.found pure_initial {at = c.args.name} WrongType (onto pure.right right) c.can_begin-well.ensures refl
    (walked_onto _ _ pure_right pure_initial pure.right right c.right_of.result (Ok c.in_ok-found.found) (rw c.begun_takes.ensures at c.right_of.ensures) c.in_ok-found.ensures)
    c.note_unless.ensures c.if_well.ensures
