use Rattle.std.proofs.Common.{refl, Ok, Err}
use Rattle.std.proofs.lemmas.Result.{err_from_is_err_and}
use Rattle.wiz_logs.specs.Logs.{convert_outcome, converted, log_task}
use Rattle.wiz_tool.specs.Environment.{environment}
use Rattle.wiz_task.proofs.EndLemmas.{command_failed, command_short, done_short, done_told, told_from}
use Rattle.wiz_logs.proofs.SubjectLemmas.{log_bounds_of}
use Rattle.wiz_logs.proofs.commands.convert.convert.Goals as goal

pub returns-in_err-log : goal.returns-in_err-log
returns-in_err-log g c =
    let p = err_from_is_err_and c.from_residual.result c.from_residual.ensures.1 in
    rw (p.1, p.2)
    (command_failed (log_task c.args.name.now (λ log. convert_outcome c.args.file.now (converted c.args.is_text log))) (environment (g.S.Store.observed c.args.store.now) (g.K.Sink.observed c.args.out.now)) (environment (g.S.Store.observed c.read_log_file.new.store) (g.K.Sink.observed c.args.out.now))
    c.in_err-log.field-0.0 (record { files = c.in_err-log.ensures.files; out = refl }) c.in_err-log.ensures.refused)

pub converted-requires : goal.converted-requires
converted-requires g c = log_bounds_of c.in_ok-log.ensures.log.0 c.in_ok-log.log c.in_ok-log.ensures.log.2

pub returns-in_err-bytes : goal.returns-in_err-bytes
returns-in_err-bytes g c =
    let p = err_from_is_err_and c.from_residual-in_err-bytes.result c.from_residual-in_err-bytes.ensures.1 in
    rw p.1
    (command_short (log_task c.args.name.now (λ log. convert_outcome c.args.file.now (converted c.args.is_text log))) (environment (g.S.Store.observed c.args.store.now) (g.K.Sink.observed c.args.out.now)) (environment (g.S.Store.observed c.read_log_file.new.store) (g.K.Sink.observed c.args.out.now)) _ p.2 (record { files = c.in_ok-log.ensures.files; out = refl }))

pub returns-in_err-report : goal.returns-in_err-report
returns-in_err-report g c =
    let p = err_from_is_err_and c.from_residual-in_err-report.result c.from_residual-in_err-report.ensures.1 in
    let log = c.in_ok-log.ensures.log in
    let bytes = converted c.args.is_text c.in_ok-log.log in
    let told = rw (c.as_slice.ensures, c.in_ok-bytes.ensures) at c.in_err-report.ensures.told in
    rw p.1
    (done_short (log_task c.args.name.now (λ log. convert_outcome c.args.file.now (converted c.args.is_text log))) (environment (g.S.Store.observed c.args.store.now) (g.K.Sink.observed c.args.out.now))
    (environment (g.S.Store.observed c.write.new.store) (g.K.Sink.observed c.write.new.out)) (convert_outcome c.args.file.now bytes) c.in_err-report.field-0.0 _ p.2 (log.0, log.1, (c.in_ok-log.log, log.2, refl))
    (told_from (convert_outcome c.args.file.now bytes) (environment (g.S.Store.observed c.args.store.now) (g.K.Sink.observed c.args.out.now))
    (environment (g.S.Store.observed c.read_log_file.new.store) (g.K.Sink.observed c.args.out.now)) (environment (g.S.Store.observed c.write.new.store) (g.K.Sink.observed c.write.new.out)) (Err c.in_err-report.field-0.0) c.in_ok-log.ensures.files c.in_ok-log.ensures.writes refl told))

pub returns : goal.returns
returns g c =
    let log = c.in_ok-log.ensures.log in
    let bytes = converted c.args.is_text c.in_ok-log.log in
    let told = rw (c.as_slice.ensures, c.in_ok-bytes.ensures) at c.in_ok-report.ensures.told in
    done_told (log_task c.args.name.now (λ log. convert_outcome c.args.file.now (converted c.args.is_text log))) (environment (g.S.Store.observed c.args.store.now) (g.K.Sink.observed c.args.out.now))
    (environment (g.S.Store.observed c.write.new.store) (g.K.Sink.observed c.write.new.out)) (convert_outcome c.args.file.now bytes) c.in_ok-report.report (log.0, log.1, (c.in_ok-log.log, log.2, refl))
    (told_from (convert_outcome c.args.file.now bytes) (environment (g.S.Store.observed c.args.store.now) (g.K.Sink.observed c.args.out.now))
    (environment (g.S.Store.observed c.read_log_file.new.store) (g.K.Sink.observed c.args.out.now)) (environment (g.S.Store.observed c.write.new.store) (g.K.Sink.observed c.write.new.out)) (Ok c.in_ok-report.report) c.in_ok-log.ensures.files c.in_ok-log.ensures.writes refl told)
