use Rattle.std.proofs.Common.{map, option_map}
use Rattle.c_grammar.specs.StmtView.{argument_view}
use Rattle.c_lex.specs.declared.fault.Why.TheVariants.{LeftOut}
use Rattle.c_program.specs.View.{pure_mpi, pure_right}
use Rattle.c_type_expr.specs.MpiTyping.{mpi_typing}
use Rattle.c_type_expr.proofs.CallRules.{behind_refused}
use Rattle.c_type_expr.proofs.call.no_mpi_value.Goals as goal

pub returns : goal.returns
returns c =
    behind_refused pure_right (mpi_typing c.args.scope.now c.args.name c.args.function (map (λ one. argument_view one.now) c.args.given.now)) c.args.name LeftOut c.args.best.now
    c.mpi_of.new.best c.refused.new.best (option_map (λ held. pure_mpi held.value) c.in_ok-mpi_of.field-0) c.refused.result c.in_ok-mpi_of.ensures c.refused.ensures
