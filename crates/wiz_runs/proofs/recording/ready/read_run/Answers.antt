use Rattle.std.proofs.Common.{◌∙◌, ◌∷◌, Option, arith, subst}
use Rattle.std.specs.Option.{option_to_list}
use Rattle.std.proofs.lemmas.Result.{err_from_is_err_and}
use Rattle.wiz_io.specs.Files.{Files}
use Rattle.wiz_runs.specs.Runs.{run_inputs, run_requirements}
use Rattle.wiz_tool.specs.Inputs.{AreHeld, input, option_input, order_limit, text_limit}
use Rattle.wiz_task.specs.inside.Refusals.{IsUnmetIn}
use Rattle.wiz_tool.specs.inside.Told.{IsFailureBy}
use Rattle.wiz_words.specs.Texts.{run_with_texts}
use Rattle.wiz_runs.proofs.RunInputs.{run_texts_are}
use Rattle.wiz_task.proofs.InputLemmas.{third_unread, unmet}
use Rattle.wiz_runs.proofs.recording.ready.read_run.Goals as goal

pub returns-in_err-order-clause-refused : goal.returns-in_err-order-clause-refused
returns-in_err-order-clause-refused g c =
    let run = run_with_texts c.args.run.now in
    let p = err_from_is_err_and c.from_residual-in_err-order.result c.from_residual-in_err-order.ensures.1 in
    rw (p.1, p.2)
    (third_unread (g.S.Store.observed c.args.store.now) (g.S.Store.observed c.read_input-2.new.store) (g.S.Store.observed c.read_option.new.store)
    (input text_limit run.program) (input text_limit run.plan) (option_input order_limit run.order) run_requirements
    c.in_err-order.field-0.0 (c.in_ok-text.text, c.in_ok-text.ensures.held)
    (c.in_ok-plan.plan, rw c.in_ok-plan.ensures.files c.in_ok-plan.ensures.held) (c.in_ok-plan.ensures.files ∙ c.in_ok-text.ensures.files)
    (omega (arith, c.in_ok-text.ensures.later, c.in_ok-plan.ensures.later)) c.in_err-order.ensures.unread)

pub returns-in_err-ready-clause-refused : goal.returns-in_err-ready-clause-refused
returns-in_err-ready-clause-refused g c =
    let run = run_with_texts c.args.run.now in
    let files : Option Files = (g.S.Store.observed c.args.store.now).files in
    let held : AreHeld files (run_inputs run) (c.in_ok-text.text ∷ c.in_ok-plan.plan ∷ option_to_list c.in_ok-order.order) =
    (c.in_ok-text.ensures.held, (rw c.in_ok-text.ensures.files at c.in_ok-plan.ensures.held, rw (c.in_ok-plan.ensures.files, c.in_ok-text.ensures.files) at c.in_ok-order.ensures.held)) in
    let p = err_from_is_err_and c.from_residual-in_err-ready.result c.from_residual-in_err-ready.ensures.1 in
    rw (p.1, p.2)
    (unmet (g.S.Store.observed c.args.store.now) (g.S.Store.observed c.read_option.new.store) (run_inputs run) run_requirements
    (c.in_ok-text.text ∷ c.in_ok-plan.plan ∷ option_to_list c.in_ok-order.order) c.in_err-ready.field-0.0 held
    (subst (λ plan. IsFailureBy (IsUnmetIn (run_requirements (c.in_ok-text.text ∷ plan ∷ option_to_list c.in_ok-order.order))) c.in_err-ready.field-0.0) c.as_slice.ensures c.in_err-ready.ensures.refused))

pub returns-clause-ready : goal.returns-clause-ready
returns-clause-ready g c =
    let run = run_with_texts c.args.run.now in
    let files : Option Files = (g.S.Store.observed c.args.store.now).files in
    let held : AreHeld files (run_inputs run) (c.in_ok-text.text ∷ c.in_ok-plan.plan ∷ option_to_list c.in_ok-order.order) =
    (c.in_ok-text.ensures.held, (rw c.in_ok-text.ensures.files at c.in_ok-plan.ensures.held, rw (c.in_ok-plan.ensures.files, c.in_ok-text.ensures.files) at c.in_ok-order.ensures.held)) in (
      c.in_ok-text.text ∷ c.in_ok-plan.plan ∷ option_to_list c.in_ok-order.order,
      held,
      rw (run_texts_are c.in_ok-text.text c.in_ok-plan.plan c.in_ok-order.order) (rw c.as_slice.ensures at c.in_ok-ready.ensures.ready),
    )
