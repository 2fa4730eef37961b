use Rattle.std.proofs.Common.{ap, option_map, ◌∙◌}
use Rattle.c_grammar.specs.StmtView.{head_view, parts_view}
use Rattle.c_program.specs.View.{pure_parts}
use Rattle.c_types.specs.Programs.{is_main}
use Rattle.c_types.proofs.Definitions.{definition_gives}
use Rattle.c_types.proofs.program.definition_of.Goals as goal

pub returns-clause-typed : goal.returns-clause-typed
returns-clause-typed c =
    definition_gives c.args.scope.now c.open.new.self c.parameters_of.new.scope c.is_main-main.result c.is_int.result (head_view c.args.head.now) (parts_view c.args.parts.now)
    (option_map (λ all. all.items) c.in_ok-parameters.parameters) (option_map (λ all. pure_parts all.items) c.in_ok-body.body)
    (c.is_main-main.ensures ∙ ap (λ text. is_main text (head_view c.args.head.now)) c.text.ensures) c.is_int.ensures c.in_ok-open.ensures c.in_ok-parameters.ensures.scope
    c.in_ok-parameters.ensures.typed c.in_ok-body.ensures.typed c.function.ensures
