use Rattle.std.proofs.Common.{◌∙◌, ap, map, option_map, subst, sym}
use Rattle.c_grammar.specs.StmtView.{argument_view}
use Rattle.c_lex.specs.declared.fault.Why.TheVariants.{LeftOut, WrongType}
use Rattle.c_program.specs.View.{pure_right, pure_simple}
use Rattle.c_scope.specs.Walks.{Gives}
use Rattle.c_scope.specs.declared.meaning.Meaning.{Meaning}
use Rattle.c_scope.specs.declared.meaning.Meaning.TheVariants.{Known}
use Rattle.c_type_expr.specs.CallTyping.{flush_typing, print_typing, result_typing}
use Rattle.c_type_expr.proofs.CallRules.{behind_refused}
use Rattle.c_type_expr.proofs.call.result_of.Goals as goal

pub returns-in_ok-print_of-in-Known-Printf : goal.returns-in_ok-print_of-in-Known-Printf
returns-in_ok-print_of-in-Known-Printf c =
    let P : Meaning → Type 0 = λ meant.
    Gives c.args.best.now c.refused.new.best (option_map pure_right c.refused.result)
    (result_typing c.args.scope.now c.args.wanted c.args.name meant (map (λ one. argument_view one.now) c.args.given.now)) in
    subst P (sym (sym c.meaning.ensures ∙ c.in-Known-Printf.is ∙ ap Known c.in-Known-Printf.field-0-is))
    (behind_refused pure_right (print_typing c.args.scope.now c.args.name (map (λ one. argument_view one.now) c.args.given.now)) c.args.name LeftOut c.args.best.now
    c.print_of.new.best c.refused.new.best (option_map pure_simple c.in_ok-print_of-in-Known-Printf.field-0) c.refused.result
    c.in_ok-print_of-in-Known-Printf.ensures c.refused.ensures)

pub returns-in_ok-flush_of-in-Known-Fflush : goal.returns-in_ok-flush_of-in-Known-Fflush
returns-in_ok-flush_of-in-Known-Fflush c =
    let P : Meaning → Type 0 = λ meant.
    Gives c.args.best.now c.refused-in-Known-Fflush.new.best (option_map pure_right c.refused-in-Known-Fflush.result)
    (result_typing c.args.scope.now c.args.wanted c.args.name meant (map (λ one. argument_view one.now) c.args.given.now)) in
    subst P (sym (sym c.meaning.ensures ∙ c.in-Known-Fflush.is ∙ ap Known c.in-Known-Fflush.field-0-is))
    (behind_refused pure_right (flush_typing c.args.scope.now c.args.name (map (λ one. argument_view one.now) c.args.given.now)) c.args.name WrongType c.args.best.now
    c.flush_of.new.best c.refused-in-Known-Fflush.new.best (option_map pure_simple c.in_ok-flush_of-in-Known-Fflush.field-0) c.refused-in-Known-Fflush.result
    c.in_ok-flush_of-in-Known-Fflush.ensures c.refused-in-Known-Fflush.ensures)
