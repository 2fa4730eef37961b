use Rattle.std.proofs.Common.{◌≡◌, ◌++◌, drop, map}
use Rattle.c_grammar.specs.StmtView.{comma_list_view, parameter_view}
use Rattle.c_scope.specs.Signatures.{listed, parameter_takes}
use Rattle.c_type_expr.proofs.ArgumentRules.{takes_behind}
use Rattle.c_type_expr.proofs.argument.parameters_take.Given as goal

abbrev pub invariant-loop-behind : goal.invariant-loop-behind
invariant-loop-behind l =
    l.kinds.items ++ takes_behind (drop l.behind-index l.behind-items) ≡ map parameter_takes (listed (comma_list_view parameter_view l.list))
