use Rattle.c_program.specs.View.{pure_program}
use Rattle.std.proofs.lemmas.Result.{err_from_is_err_and}
use Rattle.wiz_runs.proofs.RunInputs.{order_unmet, plan_unmet}
use Rattle.wiz_runs.proofs.recording.ready.accept_run.Goals as goal

pub returns-in_err-plan-clause-refused : goal.returns-in_err-plan-clause-refused
returns-in_err-plan-clause-refused c =
    let p = err_from_is_err_and c.from_residual-in_err-plan.result c.from_residual-in_err-plan.ensures.1 in
    rw (p.1, p.2)
    (plan_unmet c.args.text c.args.plan.now c.args.order.now (pure_program c.in_ok-program.program) c.in_err-plan.field-0.0
    (rw c.as_slice.ensures at c.in_ok-program.ensures.program) c.in_err-plan.ensures.refused)

pub returns-in_err-turns-clause-refused : goal.returns-in_err-turns-clause-refused
returns-in_err-turns-clause-refused c =
    let p = err_from_is_err_and c.from_residual-in_err-turns.result c.from_residual-in_err-turns.ensures.1 in
    rw (p.1, p.2)
    (order_unmet c.args.text c.args.plan.now c.args.order.now (pure_program c.in_ok-program.program) c.in_ok-plan.plan c.in_err-turns.field-0.0
    (rw c.as_slice.ensures at c.in_ok-program.ensures.program) c.in_ok-plan.ensures.plan
    (rw c.n.ensures.ranks at c.in_err-turns.ensures.refused))
