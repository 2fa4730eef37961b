use Rattle.std.proofs.Common.{◌≡◌, drop}
use Rattle.c_grammar.specs.StmtView.{parts_view}
use Rattle.c_program.specs.Tree as pure
use Rattle.c_program.specs.View.{pure_part}
use Rattle.c_type_stmt.specs.Declarations.{after_parts}
use Rattle.c_type_stmt.specs.StmtTyping.{parts_typing}
use Rattle.c_scope.proofs.JoinRules.{SoFar}
use Rattle.c_type_stmt.proofs.statement.+statement.Given as goal

abbrev pub invariant-parts_of-loop-part : goal.invariant-parts_of-loop-part
invariant-parts_of-loop-part l = record {
  typed : SoFar pure.part pure_part l.fn.best l.best l.faulty l.typed.items (parts_typing l.scope l.gives l.loops (parts_view (drop l.part-index l.parts)))
      (parts_typing l.fn.scope l.gives l.loops (parts_view l.parts));
  scope : after_parts l.scope (parts_view (drop l.part-index l.parts)) ≡ after_parts l.fn.scope (parts_view l.parts);
}
