use Rattle.std.proofs.Common.{rules}
use Rattle.c_grammar.specs.StmtView.{parameter_view}
use Rattle.c_types.specs.ProgramTyping.{parameter_first_token}
use Rattle.c_types.specs.Programs.{parameter_kind, parameter_name}
use Rattle.c_types.proofs.ParameterLoops.{named_told}
use Rattle.c_types.proofs.parameters.named_of.Goals as goal

pub returns-in_ok-name-in-Some : goal.returns-in_ok-name-in-Some
returns-in_ok-name-in-Some c =
    named_told c.args.scope.now (parameter_first_token (parameter_view c.args.parameter.now)) (parameter_kind (parameter_view c.args.parameter.now)) (parameter_name (parameter_view c.args.parameter.now))
    c.in-Some.span _ c.in-Some.ensures (search rules) c.want_free.ensures c.unless_told.ensures.best c.unless_told.ensures.form
