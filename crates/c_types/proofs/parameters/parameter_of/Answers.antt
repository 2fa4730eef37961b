use Rattle.c_grammar.specs.StmtView.{parameter_view}
use Rattle.c_scope.proofs.OwnFaults.{gives_told}
use Rattle.c_types.specs.ProgramTyping.{named_typing, parameter_first_token}
use Rattle.c_types.specs.Programs.{parameter_faults, parameter_kind, parameter_name}
use Rattle.c_types.proofs.parameters.parameter_of.Goals as goal

pub returns-clause-typed : goal.returns-clause-typed
returns-clause-typed c =
    let one = parameter_view c.args.parameter.now in
    gives_told (parameter_faults c.args.scope.now c.args.main one) (named_typing c.args.scope.now (parameter_first_token one) (parameter_kind one) (parameter_name one))
    c.in_ok-named.ensures c.check_parameter.ensures c.unless_told.ensures.best c.unless_told.ensures.form
