use Rattle.std.proofs.Common.{◌∙◌, ap, map, subst, sym}
use Rattle.c_grammar.specs.StmtView.{argument_view}
use Rattle.c_program.specs.Tree as pure
use Rattle.c_program.specs.View.{pure_mpi, pure_simple}
use Rattle.c_scope.specs.Walks.{Walked}
use Rattle.c_scope.specs.declared.meaning.Meaning.{Meaning}
use Rattle.c_scope.specs.declared.meaning.Meaning.TheVariants.{Known}
use Rattle.c_scope.proofs.Gives.{walked_onto}
use Rattle.c_type_expr.specs.CallTyping.{called_typing}
use Rattle.c_type_expr.specs.MpiTyping.{mpi_typing}
use Rattle.c_type_expr.proofs.call.called_of.Goals as goal

pub returns-in-Known-Mpi : goal.returns-in-Known-Mpi
returns-in-Known-Mpi c =
    let call = mpi_typing c.args.scope.now c.args.name c.in-Known-Mpi.function (map (λ one. argument_view one.now) c.args.given.now) in
    let P : Meaning → Type 0 = λ meant.
    Walked pure_simple c.args.best.now c.mpi_of.new.best c.mpi_call.result (called_typing c.args.scope.now c.args.name meant (map (λ one. argument_view one.now) c.args.given.now)) in
    subst P (sym (sym c.meaning.ensures ∙ c.in-Known-Mpi.is ∙ ap Known c.in-Known-Mpi.field-0-is))
    (walked_onto c.args.best.now c.mpi_of.new.best (λ held. pure_mpi held.value) pure_simple pure.mpi call c.mpi_of.result c.mpi_call.result
    c.mpi_of.ensures c.mpi_call.ensures)
