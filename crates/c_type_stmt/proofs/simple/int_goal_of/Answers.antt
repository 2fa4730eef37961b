use Rattle.std.proofs.Common.{ap, ◌∙◌}
use Rattle.c_grammar.specs.View.{place_view}
use Rattle.c_lex.specs.declared.fault.Why.TheVariants.{WrongType}
use Rattle.c_program.specs.View.{pure_place}
use Rattle.c_type_expr.specs.ExprTyping.{place_typing}
use Rattle.c_type_stmt.specs.Assignments.{is_int_lvalue}
use Rattle.c_scope.proofs.OwnFaults.{gives_well}
use Rattle.c_type_stmt.proofs.simple.int_goal_of.Goals as goal

pub returns : goal.returns
returns c =
    gives_well _ pure_place WrongType (place_typing c.args.scope.now (place_view c.args.place.now)) (c.is_int_lvalue-fits.ensures ∙ ap is_int_lvalue c.lvalue_kind.ensures)
    c.place_first_token.ensures c.in_ok-goal.ensures c.note_unless.ensures c.if_well.ensures
