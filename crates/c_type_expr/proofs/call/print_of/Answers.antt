use Rattle.std.proofs.Common.{Bor, List, map, subst, sym}
use Rattle.c_grammar.specs.StmtView.{argument_view}
use Rattle.c_grammar.specs.declared.statement.Argument.{Argument}
use Rattle.c_program.specs.View.{pure_simple}
use Rattle.c_scope.specs.Walks.{Walked}
use Rattle.c_type_expr.specs.CallTyping.{print_typing}
use Rattle.c_type_expr.proofs.CallRules.{first_and_others}
use Rattle.c_type_expr.proofs.call.print_of.Goals as goal

pub returns-in-len1-up : goal.returns-in-len1-up
returns-in-len1-up c =
    let P : List (Bor Argument) → Type 0 = λ given.
    Walked pure_simple c.args.best.now c.format_and_numbers.new.best c.format_and_numbers.result (print_typing c.args.scope.now c.args.name (map (λ (one : Bor Argument). argument_view one.now) given)) in
    subst P (sym (first_and_others c.args.given.now c.first-item.result c.in-len1-up.len_at_least c.first-item.is)) (c.format_and_numbers.ensures c.args.name)
