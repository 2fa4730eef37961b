use Rattle.std.proofs.Common.{refl, Ok, Err}
use Rattle.std.proofs.lemmas.Result.{err_from_is_err_and}
use Rattle.wiz_words.specs.Texts.{run_with_texts}
use Rattle.wiz_runs.specs.Runs.{record_outcome, TellsRecord, run_task}
use Rattle.wiz_tool.specs.Environment.{environment}
use Rattle.wiz_runs.proofs.CommandLemmas.{record_done}
use Rattle.wiz_task.proofs.EndLemmas.{command_failed, command_short, done_short, done_told, told_from}
use Rattle.wiz_runs.proofs.commands.record.record.Goals as goal

pub returns-in_err-ready : goal.returns-in_err-ready
returns-in_err-ready g c =
    let p = err_from_is_err_and c.from_residual.result c.from_residual.ensures.1 in
    rw (p.1, p.2)
    (command_failed (run_task (run_with_texts c.args.run.now) (TellsRecord c.args.prefix.now)) (environment (g.S.Store.observed c.args.store.now) (g.K.Sink.observed c.args.out.now)) (environment (g.S.Store.observed c.read_run.new.store) (g.K.Sink.observed c.args.out.now))
    c.in_err-ready.field-0.0 (record { files = c.in_err-ready.ensures.files; out = refl }) c.in_err-ready.ensures.refused)

pub returns-in_err-recording : goal.returns-in_err-recording
returns-in_err-recording g c =
    let p = err_from_is_err_and c.from_residual-in_err-recording.result c.from_residual-in_err-recording.ensures.1 in
    rw p.1
    (command_short (run_task (run_with_texts c.args.run.now) (TellsRecord c.args.prefix.now)) (environment (g.S.Store.observed c.args.store.now) (g.K.Sink.observed c.args.out.now)) (environment (g.S.Store.observed c.read_run.new.store) (g.K.Sink.observed c.args.out.now)) _ p.2 (record { files = c.in_ok-ready.ensures.files; out = refl }))

pub returns-in_err-report : goal.returns-in_err-report
returns-in_err-report g c =
    let p = err_from_is_err_and c.from_residual-in_err-report.result c.from_residual-in_err-report.ensures.1 in
    let ready = c.in_ok-ready.ensures.ready in
    let does = record_done (run_with_texts c.args.run.now) c.args.prefix.now (environment (g.S.Store.observed c.args.store.now) (g.K.Sink.observed c.args.out.now)) ready.0 c.in_ok-ready.ready c.in_ok-recording.recording
    ready.1 ready.2 (rw c.requires.threads at c.in_ok-recording.ensures) in
    rw p.1
    (done_short (run_task (run_with_texts c.args.run.now) (TellsRecord c.args.prefix.now)) (environment (g.S.Store.observed c.args.store.now) (g.K.Sink.observed c.args.out.now))
    (environment (g.S.Store.observed c.write.new.store) (g.K.Sink.observed c.write.new.out)) (record_outcome c.args.prefix.now c.in_ok-recording.recording) c.in_err-report.field-0.0 _ p.2 does
    (told_from (record_outcome c.args.prefix.now c.in_ok-recording.recording) (environment (g.S.Store.observed c.args.store.now) (g.K.Sink.observed c.args.out.now))
    (environment (g.S.Store.observed c.read_run.new.store) (g.K.Sink.observed c.args.out.now)) (environment (g.S.Store.observed c.write.new.store) (g.K.Sink.observed c.write.new.out)) (Err c.in_err-report.field-0.0) c.in_ok-ready.ensures.files c.in_ok-ready.ensures.writes refl c.in_err-report.ensures.told))

pub returns : goal.returns
returns g c =
    let ready = c.in_ok-ready.ensures.ready in
    let does = record_done (run_with_texts c.args.run.now) c.args.prefix.now (environment (g.S.Store.observed c.args.store.now) (g.K.Sink.observed c.args.out.now)) ready.0 c.in_ok-ready.ready c.in_ok-recording.recording
    ready.1 ready.2 (rw c.requires.threads at c.in_ok-recording.ensures) in
    done_told (run_task (run_with_texts c.args.run.now) (TellsRecord c.args.prefix.now)) (environment (g.S.Store.observed c.args.store.now) (g.K.Sink.observed c.args.out.now))
    (environment (g.S.Store.observed c.write.new.store) (g.K.Sink.observed c.write.new.out)) (record_outcome c.args.prefix.now c.in_ok-recording.recording) c.in_ok-report.report does
    (told_from (record_outcome c.args.prefix.now c.in_ok-recording.recording) (environment (g.S.Store.observed c.args.store.now) (g.K.Sink.observed c.args.out.now))
    (environment (g.S.Store.observed c.read_run.new.store) (g.K.Sink.observed c.args.out.now)) (environment (g.S.Store.observed c.write.new.store) (g.K.Sink.observed c.write.new.out)) (Ok c.in_ok-report.report) c.in_ok-ready.ensures.files c.in_ok-ready.ensures.writes refl c.in_ok-report.ensures.told)
