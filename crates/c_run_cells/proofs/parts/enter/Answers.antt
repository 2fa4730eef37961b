use Rattle.std.proofs.Common.{◌≡◌, ◌∙◌, true, ap}
use Rattle.c_program.specs.Meaning.{has_room, with_open_call, parameter_cells, with_parameters}
use Rattle.c_program.specs.View.{pure_function}
use Rattle.c_run_cells.proofs.PartLaws.{enters}
use Rattle.c_run_cells.proofs.parts.enter.Goals as goal

pub returns : goal.returns
returns c =
    let room : has_room (parameter_cells c.args.function.now.parameters.items) c.args.state.now ≡ true = cc in
    let is : c.add_parameters.new.state ≡ with_parameters c.args.function.now.parameters.items c.args.arguments.now (with_open_call c.args.state.now) =
    c.in_ok-add_parameters.ensures ∙ ap (λ parameters. with_parameters parameters c.args.arguments.now c.open.new.self) c.deref-2.ensures.value
    ∙ ap (with_parameters c.args.function.now.parameters.items c.args.arguments.now) c.in_ok-open.ensures in
    enters (pure_function c.args.function.now) c.args.arguments.now c.args.state.now c.add_parameters.new.state room is
