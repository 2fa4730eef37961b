use Rattle.std.proofs.Common.{Bor, length, map, subst, sym}
use Rattle.std.proofs.lemmas.List.{length-map}
use Rattle.c_grammar.specs.StmtView.{argument_view}
use Rattle.c_grammar.specs.declared.statement.Argument.{Argument}
use Rattle.c_program.specs.Tree as pure
use Rattle.c_program.specs.View.{pure_expr, pure_simple}
use Rattle.c_scope.specs.Walks.{Walked}
use Rattle.c_scope.proofs.JoinRules.{walked_pair}
use Rattle.c_type_expr.specs.CallTyping.{format_typing, numbers_typing}
use Rattle.c_type_expr.proofs.call.format_and_numbers.Goals as goal

pub returns-in-Text : goal.returns-in-Text
returns-in-Text c = λ name.
    let others = map (λ (one : Bor Argument). argument_view one.now) c.args.others.now in
    let format = subst (λ count. Walked (λ format. format.items) c.args.best.now c.format_of.new.best c.format_of.result (format_typing c.args.scope.now c.in-Text.at count))
    (sym (length-map c.args.others.now (λ (one : Bor Argument). argument_view one.now))) c.format_of.ensures in
    rw c.in-Text.is
    (walked_pair c.args.best.now c.format_of.new.best c.numbers_of.new.best (λ format. format.items) (λ all. map pure_expr all.items) pure_simple pure.print
    (format_typing c.args.scope.now c.in-Text.at (length others)) (numbers_typing c.args.scope.now others) c.format_of.result c.numbers_of.result c.both.result c.print.result
    format c.numbers_of.ensures c.both.ensures c.print.ensures)
