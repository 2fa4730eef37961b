use Rattle.std.proofs.Common.{Ok, Some, false, option_map, refl}
use Rattle.c_grammar.specs.StmtView.{right_view}
use Rattle.c_lex.specs.declared.fault.Why.TheVariants.{WrongType}
use Rattle.c_program.specs.View.{pure_right}
use Rattle.c_scope.specs.Typing.{onto}
use Rattle.c_scope.specs.declared.meaning.ExprKind.TheVariants.{Nothing}
use Rattle.c_scope.proofs.Gives.{walked_onto}
use Rattle.c_type_expr.specs.CallTyping.{right_typing}
use Rattle.c_scope.proofs.OwnFaults.{gives_well}
use Rattle.c_type_stmt.proofs.Walks.{mapped_given}
use Rattle.c_type_stmt.proofs.statement.return_of.Goals as goal

pub returns-in_ok-found-in-Some : goal.returns-in_ok-found-in-Some
returns-in_ok-found-in-Some c =
    let right = right_typing c.args.scope.now Nothing (right_view c.in-Some.right) in let found = c.in_ok-found-in-Some.found in
    rw (c.in-Some.is, c.if-gives.false)
    (gives_well found (option_map pure_right) {well = false} WrongType (onto Some right) refl c.right_first_token.ensures
    (walked_onto _ _ pure_right (option_map pure_right) Some right c.right_of-else-gives.result (Ok found) c.right_of-else-gives.ensures
    (mapped_given pure_right c.right_of-else-gives.result (Ok found) c.in_ok-found-in-Some.ensures))
    c.note_at.ensures c.if_well.ensures)
