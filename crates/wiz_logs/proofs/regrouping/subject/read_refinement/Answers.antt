use Rattle.std.proofs.Common.{[], ◌∷◌, Option, subst}
use Rattle.std.proofs.lemmas.Result.{err_from_is_err_and}
use Rattle.wiz_io.specs.Files.{Files}
use Rattle.srr_log.specs.declared.limits.TheConstants.{MOST_LOG_BYTES}
use Rattle.wiz_logs.specs.Logs.{refine_inputs, refine_requirements}
use Rattle.wiz_tool.specs.Inputs.{AreHeld, input, text_limit}
use Rattle.wiz_task.specs.inside.Refusals.{IsUnmetIn}
use Rattle.wiz_tool.specs.inside.Told.{IsFailureBy}
use Rattle.wiz_task.proofs.InputLemmas.{second_unread, unmet}
use Rattle.wiz_logs.proofs.regrouping.subject.read_refinement.Goals as goal

pub returns-in_err-text-clause-refused : goal.returns-in_err-text-clause-refused
returns-in_err-text-clause-refused g c =
    let p = err_from_is_err_and c.from_residual-in_err-text.result c.from_residual-in_err-text.ensures.1 in
    rw (p.1, p.2)
    (second_unread (g.S.Store.observed c.args.store.now) (g.S.Store.observed c.read_input.new.store) (g.S.Store.observed c.read_input-2.new.store)
    (input MOST_LOG_BYTES c.args.log.now) (input text_limit c.args.plan.now) [] refine_requirements
    c.in_err-text.field-0.0 (c.in_ok-bytes.bytes, c.in_ok-bytes.ensures.held) c.in_ok-bytes.ensures.files c.in_ok-bytes.ensures.later
    c.in_err-text.ensures.unread)

pub returns-in_err-refinement-clause-refused : goal.returns-in_err-refinement-clause-refused
returns-in_err-refinement-clause-refused g c =
    let files : Option Files = (g.S.Store.observed c.args.store.now).files in
    let held : AreHeld files (refine_inputs c.args.log.now c.args.plan.now) (c.in_ok-bytes.bytes ∷ c.in_ok-text.text ∷ []) =
    (c.in_ok-bytes.ensures.held, (rw c.in_ok-bytes.ensures.files at c.in_ok-text.ensures.held, tt)) in
    let p = err_from_is_err_and c.from_residual-in_err-refinement.result c.from_residual-in_err-refinement.ensures.1 in
    rw (p.1, p.2)
    (unmet (g.S.Store.observed c.args.store.now) (g.S.Store.observed c.read_input-2.new.store) (refine_inputs c.args.log.now c.args.plan.now) refine_requirements
    (c.in_ok-bytes.bytes ∷ c.in_ok-text.text ∷ []) c.in_err-refinement.field-0.0 held
    (subst (λ text. IsFailureBy (IsUnmetIn (refine_requirements (c.in_ok-bytes.bytes ∷ text ∷ []))) c.in_err-refinement.field-0.0) c.as_slice-2.ensures
    (subst (λ bytes. IsFailureBy (IsUnmetIn (refine_requirements (bytes ∷ c.as_slice-2.result.now ∷ []))) c.in_err-refinement.field-0.0) c.as_slice.ensures c.in_err-refinement.ensures.refused)))

pub returns-clause-refinement : goal.returns-clause-refinement
returns-clause-refinement g c =
    let files : Option Files = (g.S.Store.observed c.args.store.now).files in
    let held : AreHeld files (refine_inputs c.args.log.now c.args.plan.now) (c.in_ok-bytes.bytes ∷ c.in_ok-text.text ∷ []) =
    (c.in_ok-bytes.ensures.held, (rw c.in_ok-bytes.ensures.files at c.in_ok-text.ensures.held, tt)) in
    (c.in_ok-bytes.bytes ∷ c.in_ok-text.text ∷ [], held, rw (c.as_slice.ensures, c.as_slice-2.ensures) at c.in_ok-refinement.ensures.refinement)
