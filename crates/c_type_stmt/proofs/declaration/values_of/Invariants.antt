use Rattle.std.proofs.Common.{◌∷◌, drop}
use Rattle.c_grammar.specs.StmtView.{comma_list_view}
use Rattle.c_grammar.specs.View.{view}
use Rattle.c_program.specs.View.{pure_expr}
use Rattle.c_scope.specs.Signatures.{listed}
use Rattle.c_type_stmt.specs.StmtTyping.{values_typing}
use Rattle.c_scope.proofs.Rows.{behind_viewed}
use Rattle.c_scope.proofs.JoinRules.{SoFar}
use Rattle.c_type_stmt.proofs.declaration.values_of.Given as goal

abbrev pub invariant-loop-behind : goal.invariant-loop-behind
invariant-loop-behind l =
    SoFar ◌∷◌ pure_expr l.fn.best l.best l.faulty l.typed.items (values_typing l.scope (behind_viewed view (drop l.behind-index l.behind-items)))
    (values_typing l.scope (listed (comma_list_view view l.values)))
