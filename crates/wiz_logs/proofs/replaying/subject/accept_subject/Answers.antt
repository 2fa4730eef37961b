use Rattle.std.proofs.Common.{refl}
use Rattle.std.proofs.lemmas.Result.{err_from_is_err_and}
use Rattle.wiz_logs.proofs.LogInputs.{log_unmet, used_unmet}
use Rattle.wiz_logs.proofs.SubjectLemmas.{subject_of, used_short}
use Rattle.wiz_logs.proofs.replaying.subject.accept_subject.Goals as goal

pub program_in-requires : goal.program_in-requires
program_in-requires c = rw c.used_text.ensures (used_short c.in_ok-log.log c.args.text c.in_ok-log.ensures.within c.requires.text)

pub returns-in_err-log-clause-refused : goal.returns-in_err-log-clause-refused
returns-in_err-log-clause-refused c =
    let p = err_from_is_err_and c.from_residual.result c.from_residual.ensures.1 in
    rw (p.1, p.2) (log_unmet c.args.bytes.now c.args.text c.in_err-log.field-0.0 c.in_err-log.ensures.refused)

pub returns-in_err-program-clause-refused : goal.returns-in_err-program-clause-refused
returns-in_err-program-clause-refused c =
    let p = err_from_is_err_and c.from_residual-in_err-program.result c.from_residual-in_err-program.ensures.1 in
    rw (p.1, p.2)
    (used_unmet c.args.bytes.now c.in_ok-log.log c.args.text c.in_err-program.field-0.0 c.in_ok-log.ensures.log
    (rw c.used_text.ensures at c.in_err-program.ensures.refused))

pub returns-clause-subject : goal.returns-clause-subject
returns-clause-subject c =
    subject_of c.args.bytes.now c.args.text (record { log = c.in_ok-log.log; text = c.args.text; program = c.in_ok-program.program })
    c.in_ok-log.ensures.log refl (rw c.used_text.ensures at c.in_ok-program.ensures.program)
