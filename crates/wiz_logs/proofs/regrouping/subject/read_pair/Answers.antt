use Rattle.std.proofs.Common.{[], ◌∷◌, Option, subst}
use Rattle.std.proofs.lemmas.Result.{err_from_is_err_and}
use Rattle.wiz_io.specs.Files.{Files}
use Rattle.srr_log.specs.declared.limits.TheConstants.{MOST_LOG_BYTES}
use Rattle.wiz_logs.specs.Logs.{join_inputs, join_requirements}
use Rattle.wiz_tool.specs.Inputs.{AreHeld, input}
use Rattle.wiz_task.specs.inside.Refusals.{IsUnmetIn}
use Rattle.wiz_tool.specs.inside.Told.{IsFailureBy}
use Rattle.wiz_task.proofs.InputLemmas.{second_unread, unmet}
use Rattle.wiz_logs.proofs.regrouping.subject.read_pair.Goals as goal

pub returns-in_err-others-clause-refused : goal.returns-in_err-others-clause-refused
returns-in_err-others-clause-refused g c =
    let p = err_from_is_err_and c.from_residual-in_err-others.result c.from_residual-in_err-others.ensures.1 in
    rw (p.1, p.2)
    (second_unread (g.S.Store.observed c.args.store.now) (g.S.Store.observed c.read_input.new.store) (g.S.Store.observed c.read_input-2.new.store)
    (input MOST_LOG_BYTES c.args.one.now) (input MOST_LOG_BYTES c.args.other.now) [] join_requirements
    c.in_err-others.field-0.0 (c.in_ok-bytes.bytes, c.in_ok-bytes.ensures.held) c.in_ok-bytes.ensures.files c.in_ok-bytes.ensures.later
    c.in_err-others.ensures.unread)

pub returns-in_err-pair-clause-refused : goal.returns-in_err-pair-clause-refused
returns-in_err-pair-clause-refused g c =
    let files : Option Files = (g.S.Store.observed c.args.store.now).files in
    let held : AreHeld files (join_inputs c.args.one.now c.args.other.now) (c.in_ok-bytes.bytes ∷ c.in_ok-others.others ∷ []) =
    (c.in_ok-bytes.ensures.held, (rw c.in_ok-bytes.ensures.files at c.in_ok-others.ensures.held, tt)) in
    let p = err_from_is_err_and c.from_residual-in_err-pair.result c.from_residual-in_err-pair.ensures.1 in
    rw (p.1, p.2)
    (unmet (g.S.Store.observed c.args.store.now) (g.S.Store.observed c.read_input-2.new.store) (join_inputs c.args.one.now c.args.other.now) join_requirements
    (c.in_ok-bytes.bytes ∷ c.in_ok-others.others ∷ []) c.in_err-pair.field-0.0 held
    (subst (λ text. IsFailureBy (IsUnmetIn (join_requirements (c.in_ok-bytes.bytes ∷ text ∷ []))) c.in_err-pair.field-0.0) c.as_slice-2.ensures
    (subst (λ bytes. IsFailureBy (IsUnmetIn (join_requirements (bytes ∷ c.as_slice-2.result.now ∷ []))) c.in_err-pair.field-0.0) c.as_slice.ensures c.in_err-pair.ensures.refused)))

pub returns-clause-pair : goal.returns-clause-pair
returns-clause-pair g c =
    let files : Option Files = (g.S.Store.observed c.args.store.now).files in
    let held : AreHeld files (join_inputs c.args.one.now c.args.other.now) (c.in_ok-bytes.bytes ∷ c.in_ok-others.others ∷ []) =
    (c.in_ok-bytes.ensures.held, (rw c.in_ok-bytes.ensures.files at c.in_ok-others.ensures.held, tt)) in
    (c.in_ok-bytes.bytes ∷ c.in_ok-others.others ∷ [], held, rw (c.as_slice.ensures, c.as_slice-2.ensures) at c.in_ok-pair.ensures.pair)
