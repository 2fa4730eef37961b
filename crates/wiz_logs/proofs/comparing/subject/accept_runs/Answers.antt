use Rattle.std.proofs.Common.{[], ◌∷◌}
use Rattle.std.proofs.lemmas.Result.{err_from_is_err_and}
use Rattle.wiz_task.specs.Requirements.{a_comparison, a_log, its_program}
use Rattle.wiz_logs.proofs.LogInputs.{comparison_unmet, own_unmet}
use Rattle.wiz_task.proofs.InputLemmas.{unmet_after}
use Rattle.wiz_logs.proofs.comparing.subject.accept_runs.Goals as goal

pub returns-in_err-one-clause-refused : goal.returns-in_err-one-clause-refused
returns-in_err-one-clause-refused c =
    let p = err_from_is_err_and c.from_residual.result c.from_residual.ensures.1 in
    let bytes = c.args.bytes.now in
    let others = c.args.others.now in
    rw (p.1, p.2)
    (unmet_after [] (a_log bytes) (a_log others ∷ a_comparison bytes others ∷ its_program bytes ∷ []) c.in_err-one.field-0.0 tt c.in_err-one.ensures.refused)

pub returns-in_err-other-clause-refused : goal.returns-in_err-other-clause-refused
returns-in_err-other-clause-refused c =
    let p = err_from_is_err_and c.from_residual-in_err-other.result c.from_residual-in_err-other.ensures.1 in
    let bytes = c.args.bytes.now in
    let others = c.args.others.now in
    rw (p.1, p.2)
    (unmet_after (a_log bytes ∷ []) (a_log others) (a_comparison bytes others ∷ its_program bytes ∷ []) c.in_err-other.field-0.0
    ((c.in_ok-one.one, c.in_ok-one.ensures.log), tt) c.in_err-other.ensures.refused)

pub returns-in_err-check_comparison-clause-refused : goal.returns-in_err-check_comparison-clause-refused
returns-in_err-check_comparison-clause-refused c =
    let p = err_from_is_err_and c.from_residual-in_err-check_comparison.result c.from_residual-in_err-check_comparison.ensures.1 in
    let bytes = c.args.bytes.now in
    let others = c.args.others.now in
    rw (p.1, p.2)
    (unmet_after (a_log bytes ∷ a_log others ∷ []) (a_comparison bytes others) (its_program bytes ∷ []) c.in_err-check_comparison.field-0.0
    ((c.in_ok-one.one, c.in_ok-one.ensures.log), ((c.in_ok-other.other, c.in_ok-other.ensures.log), tt))
    (comparison_unmet bytes others c.in_ok-one.one c.in_ok-other.other c.in_err-check_comparison.field-0.0 c.in_ok-one.ensures.log c.in_ok-other.ensures.log
    c.in_err-check_comparison.ensures.refused))

pub returns-in_err-program-clause-refused : goal.returns-in_err-program-clause-refused
returns-in_err-program-clause-refused c =
    let p = err_from_is_err_and c.from_residual-in_err-program.result c.from_residual-in_err-program.ensures.1 in
    let bytes = c.args.bytes.now in
    let others = c.args.others.now in
    let one = c.in_ok-one.one in
    let other = c.in_ok-other.other in
    rw (p.1, p.2)
    (unmet_after (a_log bytes ∷ a_log others ∷ a_comparison bytes others ∷ []) (its_program bytes) [] c.in_err-program.field-0.0 (
      (one, c.in_ok-one.ensures.log),
      (
        (other, c.in_ok-other.ensures.log),
        ((one, other, c.in_ok-one.ensures.log, c.in_ok-other.ensures.log, c.in_ok-check_comparison.ensures.comparable), tt),
      ),
    )
    (own_unmet bytes one c.in_err-program.field-0.0 c.in_ok-one.ensures.log (rw c.as_slice.ensures at c.in_err-program.ensures.refused)))
