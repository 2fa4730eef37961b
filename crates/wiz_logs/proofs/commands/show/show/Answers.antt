use Rattle.std.proofs.Common.{◌∙◌, ap, refl, []}
use Rattle.std.proofs.lemmas.Result.{err_from_is_err_and}
use Rattle.wiz_trace.specs.ShowTexts.{show_text}
use Rattle.wiz_tool.specs.Outcomes.{text_outcome}
use Rattle.wiz_tool.specs.inside.Told.{outcome_written}
use Rattle.wiz_tool.specs.Environment.{environment}
use Rattle.wiz_task.proofs.EndLemmas.{command_failed, command_short, done_short, done_told, put_short, put_same, put_told, told_text}
use Rattle.wiz_logs.proofs.commands.show.show.Goals as goal
use Rattle.wiz_logs.specs.Logs.{log_task}

pub returns-in_err-log : goal.returns-in_err-log
returns-in_err-log g c =
    let p = err_from_is_err_and c.from_residual.result c.from_residual.ensures.1 in
    rw (p.1, p.2)
    (command_failed (log_task c.args.name.now (λ log. text_outcome (show_text log))) (environment (g.S.Store.observed c.args.store.now) (g.K.Sink.observed c.args.out.now)) (environment (g.S.Store.observed c.read_log_file.new.store) (g.K.Sink.observed c.args.out.now))
    c.in_err-log.field-0.0 (record { files = c.in_err-log.ensures.files; out = refl }) c.in_err-log.ensures.refused)

pub returns-in_err-text : goal.returns-in_err-text
returns-in_err-text g c =
    let p = err_from_is_err_and c.from_residual-in_err-text.result c.from_residual-in_err-text.ensures.1 in
    rw p.1
    (command_short (log_task c.args.name.now (λ log. text_outcome (show_text log))) (environment (g.S.Store.observed c.args.store.now) (g.K.Sink.observed c.args.out.now)) (environment (g.S.Store.observed c.read_log_file.new.store) (g.K.Sink.observed c.args.out.now)) _ p.2 (record { files = c.in_ok-log.ensures.files; out = refl }))

pub returns-in_err-report : goal.returns-in_err-report
returns-in_err-report g c =
    let p = err_from_is_err_and c.from_residual-in_err-report.result c.from_residual-in_err-report.ensures.1 in
    let log = c.in_ok-log.ensures.log in
    rw p.1
    (done_short (log_task c.args.name.now (λ log. text_outcome (show_text log))) (environment (g.S.Store.observed c.args.store.now) (g.K.Sink.observed c.args.out.now))
    (environment (g.S.Store.observed c.read_log_file.new.store) (g.K.Sink.observed c.tell.new.out)) (text_outcome (show_text c.in_ok-log.log)) c.in_err-report.field-0.0 _ p.2 (log.0, log.1, (c.in_ok-log.log, log.2, refl))
    (put_short (text_outcome (show_text c.in_ok-log.log)) (environment (g.S.Store.observed c.args.store.now) (g.K.Sink.observed c.args.out.now)) (environment (g.S.Store.observed c.read_log_file.new.store) (g.K.Sink.observed c.tell.new.out)) c.in_err-report.field-0.0 refl c.in_ok-log.ensures.files
    (rw (told_text c.text_alone.result _ c.text_alone.ensures, c.in_ok-text.ensures) at c.in_err-report.ensures.err)))

pub returns : goal.returns
returns g c =
    let log = c.in_ok-log.ensures.log in
    done_told (log_task c.args.name.now (λ log. text_outcome (show_text log))) (environment (g.S.Store.observed c.args.store.now) (g.K.Sink.observed c.args.out.now))
    (environment (g.S.Store.observed c.read_log_file.new.store) (g.K.Sink.observed c.tell.new.out)) (text_outcome (show_text c.in_ok-log.log)) c.in_ok-report.report (log.0, log.1, (c.in_ok-log.log, log.2, refl))
    (put_told (text_outcome (show_text c.in_ok-log.log)) (environment (g.S.Store.observed c.args.store.now) (g.K.Sink.observed c.args.out.now)) (environment (g.S.Store.observed c.read_log_file.new.store) (g.K.Sink.observed c.tell.new.out)) c.in_ok-report.report refl c.in_ok-log.ensures.files
    (put_same (outcome_written [] c.text_alone.result) (text_outcome (show_text c.in_ok-log.log)) (g.K.Sink.observed c.args.out.now) (g.K.Sink.observed c.tell.new.out) c.in_ok-report.report
    (c.text_alone.ensures ∙ ap text_outcome c.in_ok-text.ensures) (c.in_ok-report.ensures.put [])))
