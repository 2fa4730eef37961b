use Rattle.std.proofs.Common.{◌≡◌, ◌++◌, ◌∷◌, drop}
use Rattle.c_grammar.specs.StmtView.{argument_view}
use Rattle.c_type_expr.proofs.CallRules.{behind_commas, referred}
use Rattle.c_type_expr.proofs.call.items_of.Given as goal

abbrev pub invariant-loop-behind : goal.invariant-loop-behind
invariant-loop-behind l =
    referred l.given.items ++ behind_commas (drop l.behind-index l.behind-items) ≡ argument_view l.list.first ∷ behind_commas l.behind-items
