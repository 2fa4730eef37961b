use Rattle.std.proofs.Common.{◌≡◌, ◌∷◌, drop}
use Rattle.c_grammar.specs.StmtView.{comma_list_view, item_view}
use Rattle.c_program.specs.View.{pure_item}
use Rattle.c_scope.specs.Signatures.{listed}
use Rattle.c_type_stmt.specs.Declarations.{after_declarators}
use Rattle.c_type_stmt.specs.StmtTyping.{items_typing}
use Rattle.c_scope.proofs.Rows.{behind_viewed}
use Rattle.c_scope.proofs.JoinRules.{SoFar}
use Rattle.c_type_stmt.proofs.declaration.items_of.Given as goal

abbrev pub invariant-loop-behind : goal.invariant-loop-behind
invariant-loop-behind l = record {
  typed : SoFar ◌∷◌ pure_item l.fn.best l.best l.faulty l.typed.items (items_typing l.scope l.kind (behind_viewed item_view (drop l.behind-index l.behind-items)))
      (items_typing l.fn.scope l.kind (listed (comma_list_view item_view l.items)));
  scope : after_declarators l.scope l.kind (behind_viewed item_view (drop l.behind-index l.behind-items))
      ≡ after_declarators l.fn.scope l.kind (listed (comma_list_view item_view l.items));
}
