use Rattle.std.proofs.Common.{Some, None, ap, option_map, refl, rules, ◌∙◌}
use Rattle.c_grammar.specs.StmtView.{head_view, parameters_view, parts_view}
use Rattle.c_program.specs.View.{pure_function}
use Rattle.c_scope.specs.Least.{least_fault_from}
use Rattle.c_scope.specs.Signatures.{parameters_listed}
use Rattle.c_scope.specs.Typing.{onto, typed}
use Rattle.c_scope.proofs.OwnFaults.{gives_told_as}
use Rattle.c_types.specs.ProgramTyping.{definition_typing}
use Rattle.c_types.specs.Programs.{external_twice_faults, is_main, prototype_faults}
use Rattle.c_types.proofs.Walks.{gives_some}
use Rattle.c_types.proofs.program.external_of.Goals as goal

pub returns-in_ok-declare-in-Define-clause-typed : goal.returns-in_ok-declare-in-Define-clause-typed
returns-in_ok-declare-in-Define-clause-typed c =
    rw c.in-Define.is
    (gives_told_as (Some None) (option_map pure_function) (external_twice_faults c.args.scope.now.text c.args.seen.now c.in-Define.name) (typed None) (record { best = refl; form = refl })
    (c.want_new.ensures ∙ ap (λ text. least_fault_from None (external_twice_faults text c.args.seen.now c.in-Define.name)) c.text-text.ensures)
    c.unless_told.ensures.best c.unless_told.ensures.form)

pub returns-in_ok-function-in-Function-clause-typed : goal.returns-in_ok-function-in-Function-clause-typed
returns-in_ok-function-in-Function-clause-typed c =
    let definition = definition_typing c.args.scope.now (head_view c.in-Function.head) (parts_view c.in-Function.parts.items) in
    rw c.in-Function.is
    (gives_told_as c.map.result (option_map pure_function) (external_twice_faults c.args.scope.now.text c.args.seen.now c.in-Function.head.name) (onto Some definition)
    (gives_some pure_function c.in_ok-function-in-Function.function definition (rw c.deref.ensures.value at c.in_ok-function-in-Function.ensures.typed) (search rules))
    (c.want_new-in-Function.ensures ∙ ap (λ text. least_fault_from None (external_twice_faults text c.args.seen.now c.in-Function.head.name)) c.text-text.ensures)
    c.unless_told-in-Function.ensures.best c.unless_told-in-Function.ensures.form)

pub returns-in-Prototype-clause-typed : goal.returns-in-Prototype-clause-typed
returns-in-Prototype-clause-typed c =
    let listed = parameters_listed (parameters_view c.in-Prototype.head.parameters) in
    rw c.in-Prototype.is
    (gives_told_as (Some None) (option_map pure_function) (prototype_faults c.args.scope.now (is_main c.args.scope.now.text (head_view c.in-Prototype.head)) listed) (typed None)
    (record { best = refl; form = refl })
    (c.check_prototype.ensures
    ∙ ap (λ main. least_fault_from None (prototype_faults c.args.scope.now main listed)) (c.is_main.ensures ∙ ap (λ text. is_main text (head_view c.in-Prototype.head)) c.text-text.ensures))
    c.unless_told-in-Prototype.ensures.best c.unless_told-in-Prototype.ensures.form)
