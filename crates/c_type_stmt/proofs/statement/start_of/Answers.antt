use Rattle.c_grammar.specs.StmtView.{declaration_view}
use Rattle.c_program.specs.Tree as pure
use Rattle.c_program.specs.View.{pure_declaration, pure_start}
use Rattle.c_scope.proofs.Gives.{walked_onto}
use Rattle.c_type_stmt.specs.StmtTyping.{declaration_typing}
use Rattle.c_type_stmt.proofs.statement.start_of.Goals as goal

pub returns-in-Declaration-clause-typed : goal.returns-in-Declaration-clause-typed
returns-in-Declaration-clause-typed c =
    rw c.in-Declaration.is
    (walked_onto _ _ pure_declaration pure_start pure.declared_start (declaration_typing c.args.scope.now (declaration_view c.in-Declaration.declaration)) c.declaration_of.result c.declared_start.result
    c.declaration_of.ensures.typed c.declared_start.ensures)
