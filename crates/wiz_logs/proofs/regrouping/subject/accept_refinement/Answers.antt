use Rattle.std.proofs.Common.{[], ◌∷◌}
use Rattle.std.proofs.lemmas.Result.{err_from_is_err_and}
use Rattle.wiz_task.specs.Requirements.{a_log, a_plan, a_refinement, its_program}
use Rattle.wiz_logs.proofs.LogInputs.{own_unmet, refinement_unmet}
use Rattle.wiz_task.proofs.InputLemmas.{unmet_after}
use Rattle.wiz_logs.proofs.regrouping.subject.accept_refinement.Goals as goal

pub returns-in_err-log-clause-refused : goal.returns-in_err-log-clause-refused
returns-in_err-log-clause-refused c =
    let p = err_from_is_err_and c.from_residual.result c.from_residual.ensures.1 in
    let bytes = c.args.bytes.now in
    let text = c.args.text.now in
    rw (p.1, p.2)
    (unmet_after [] (a_log bytes) (a_plan text ∷ a_refinement bytes text ∷ its_program bytes ∷ []) c.in_err-log.field-0.0 tt c.in_err-log.ensures.refused)

pub returns-in_err-plan-clause-refused : goal.returns-in_err-plan-clause-refused
returns-in_err-plan-clause-refused c =
    let p = err_from_is_err_and c.from_residual-in_err-plan.result c.from_residual-in_err-plan.ensures.1 in
    let bytes = c.args.bytes.now in
    let text = c.args.text.now in
    rw (p.1, p.2)
    (unmet_after (a_log bytes ∷ []) (a_plan text) (a_refinement bytes text ∷ its_program bytes ∷ []) c.in_err-plan.field-0.0
    ((c.in_ok-log.log, c.in_ok-log.ensures.log), tt) c.in_err-plan.ensures.refused)

pub returns-in_err-check_refinement-clause-refused : goal.returns-in_err-check_refinement-clause-refused
returns-in_err-check_refinement-clause-refused c =
    let p = err_from_is_err_and c.from_residual-in_err-check_refinement.result c.from_residual-in_err-check_refinement.ensures.1 in
    let bytes = c.args.bytes.now in
    let text = c.args.text.now in
    rw (p.1, p.2)
    (unmet_after (a_log bytes ∷ a_plan text ∷ []) (a_refinement bytes text) (its_program bytes ∷ []) c.in_err-check_refinement.field-0.0
    ((c.in_ok-log.log, c.in_ok-log.ensures.log), ((c.in_ok-plan.plan, c.in_ok-plan.ensures.plan), tt))
    (refinement_unmet bytes text c.in_ok-log.log c.in_ok-plan.plan c.in_err-check_refinement.field-0.0 c.in_ok-log.ensures.log c.in_ok-plan.ensures.plan
    c.in_err-check_refinement.ensures.refused))

pub returns-in_err-program-clause-refused : goal.returns-in_err-program-clause-refused
returns-in_err-program-clause-refused c =
    let p = err_from_is_err_and c.from_residual-in_err-program.result c.from_residual-in_err-program.ensures.1 in
    let bytes = c.args.bytes.now in
    let text = c.args.text.now in
    let log = c.in_ok-log.log in
    let groups = c.in_ok-plan.plan in
    rw (p.1, p.2)
    (unmet_after (a_log bytes ∷ a_plan text ∷ a_refinement bytes text ∷ []) (its_program bytes) [] c.in_err-program.field-0.0 (
      (log, c.in_ok-log.ensures.log),
      (
        (groups, c.in_ok-plan.ensures.plan),
        ((log, groups, c.in_ok-log.ensures.log, c.in_ok-plan.ensures.plan, c.in_ok-check_refinement.ensures.refinable), tt),
      ),
    )
    (own_unmet bytes log c.in_err-program.field-0.0 c.in_ok-log.ensures.log (rw c.as_slice.ensures at c.in_err-program.ensures.refused)))
