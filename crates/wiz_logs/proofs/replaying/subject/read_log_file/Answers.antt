use Rattle.std.proofs.Common.{[], ◌∷◌, subst}
use Rattle.std.proofs.lemmas.Result.{err_from_is_err_and}
use Rattle.srr_log.specs.declared.limits.TheConstants.{MOST_LOG_BYTES}
use Rattle.wiz_logs.specs.Logs.{log_requirements}
use Rattle.wiz_tool.specs.Inputs.{input}
use Rattle.wiz_task.specs.Requirements.{a_log}
use Rattle.wiz_task.specs.inside.Refusals.{IsUnmetIn}
use Rattle.wiz_tool.specs.inside.Told.{IsFailureBy}
use Rattle.wiz_task.proofs.InputLemmas.{unmet}
use Rattle.wiz_logs.proofs.replaying.subject.read_log_file.Goals as goal

pub returns-in_err-log-clause-refused : goal.returns-in_err-log-clause-refused
returns-in_err-log-clause-refused g c =
    let p = err_from_is_err_and c.from_residual-in_err-log.result c.from_residual-in_err-log.ensures.1 in
    rw (p.1, p.2)
    (unmet (g.S.Store.observed c.args.store.now) (g.S.Store.observed c.read_input.new.store)
    (input MOST_LOG_BYTES c.args.name.now ∷ []) log_requirements (c.in_ok-bytes.bytes ∷ []) c.in_err-log.field-0.0 (c.in_ok-bytes.ensures.held, tt)
    (subst (λ bytes. IsFailureBy (IsUnmetIn (a_log bytes ∷ [])) c.in_err-log.field-0.0) c.as_slice.ensures c.in_err-log.ensures.refused))

pub returns-clause-log : goal.returns-clause-log
returns-clause-log g c = (c.in_ok-bytes.bytes ∷ [], (c.in_ok-bytes.ensures.held, tt), rw c.as_slice.ensures at c.in_ok-log.ensures.log)
