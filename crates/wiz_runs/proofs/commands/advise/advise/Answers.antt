use Rattle.std.proofs.Common.{[], refl}
use Rattle.std.proofs.lemmas.Result.{err_from_is_err_and}
use Rattle.wiz_words.specs.Texts.{run_with_texts}
use Rattle.wiz_tool.specs.inside.Told.{outcome_written}
use Rattle.wiz_tool.specs.Environment.{environment}
use Rattle.wiz_runs.proofs.CommandLemmas.{advise_done}
use Rattle.wiz_task.proofs.EndLemmas.{command_failed, command_short, text_short, text_told}
use Rattle.wiz_runs.proofs.RecordingLemmas.{made_on_threads}
use Rattle.wiz_runs.proofs.commands.advise.advise.Goals as goal
use Rattle.wiz_runs.specs.Runs.{TellsAdvice, run_task}

pub advise_on-requires-clause-made : goal.advise_on-requires-clause-made
advise_on-requires-clause-made g c = made_on_threads _ _ _ c.in_ok-recording.ensures

pub returns-in_err-ready : goal.returns-in_err-ready
returns-in_err-ready g c =
    let p = err_from_is_err_and c.from_residual.result c.from_residual.ensures.1 in
    rw (p.1, p.2)
    (command_failed (run_task (run_with_texts c.args.run.now) (TellsAdvice c.args.most)) (environment (g.S.Store.observed c.args.store.now) (g.K.Sink.observed c.args.out.now))
    (environment (g.S.Store.observed c.read_run.new.store) (g.K.Sink.observed c.args.out.now))
    c.in_err-ready.field-0.0 (record { files = c.in_err-ready.ensures.files; out = refl }) c.in_err-ready.ensures.refused)

pub returns-in_err-recording : goal.returns-in_err-recording
returns-in_err-recording g c =
    let p = err_from_is_err_and c.from_residual-in_err-recording.result c.from_residual-in_err-recording.ensures.1 in
    rw p.1
    (command_short (run_task (run_with_texts c.args.run.now) (TellsAdvice c.args.most)) (environment (g.S.Store.observed c.args.store.now) (g.K.Sink.observed c.args.out.now))
    (environment (g.S.Store.observed c.read_run.new.store) (g.K.Sink.observed c.args.out.now)) _ p.2 (record { files = c.in_ok-ready.ensures.files; out = refl }))

pub returns-in_err-done : goal.returns-in_err-done
returns-in_err-done g c =
    let p = err_from_is_err_and c.from_residual-in_err-done.result c.from_residual-in_err-done.ensures.1 in
    rw p.1
    (command_short (run_task (run_with_texts c.args.run.now) (TellsAdvice c.args.most)) (environment (g.S.Store.observed c.args.store.now) (g.K.Sink.observed c.args.out.now))
    (environment (g.S.Store.observed c.read_run.new.store) (g.K.Sink.observed c.args.out.now)) _ p.2 (record { files = c.in_ok-ready.ensures.files; out = refl }))

pub returns-in_err-report : goal.returns-in_err-report
returns-in_err-report g c =
    let p = err_from_is_err_and c.from_residual-in_err-report.result c.from_residual-in_err-report.ensures.1 in
    let ready = c.in_ok-ready.ensures.ready in
    let outcome = outcome_written [] c.in_ok-done.done in
    let does = advise_done (run_with_texts c.args.run.now) c.args.most (environment (g.S.Store.observed c.args.store.now) (g.K.Sink.observed c.args.out.now)) ready.0 c.in_ok-ready.ready
    c.in_ok-recording.recording outcome ready.1 ready.2 (rw c.requires.threads at c.in_ok-recording.ensures) c.in_ok-done.ensures in
    rw p.1
    (text_short (run_task (run_with_texts c.args.run.now) (TellsAdvice c.args.most)) (environment (g.S.Store.observed c.args.store.now) (g.K.Sink.observed c.args.out.now))
    (environment (g.S.Store.observed c.read_run.new.store) (g.K.Sink.observed c.tell.new.out)) outcome c.in_err-report.field-0.0 _ p.2 refl
    c.in_ok-ready.ensures.files does c.in_err-report.ensures.err)

pub returns : goal.returns
returns g c =
    let ready = c.in_ok-ready.ensures.ready in
    let outcome = outcome_written [] c.in_ok-done.done in
    let does = advise_done (run_with_texts c.args.run.now) c.args.most (environment (g.S.Store.observed c.args.store.now) (g.K.Sink.observed c.args.out.now)) ready.0 c.in_ok-ready.ready
    c.in_ok-recording.recording outcome ready.1 ready.2 (rw c.requires.threads at c.in_ok-recording.ensures) c.in_ok-done.ensures in
    text_told (run_task (run_with_texts c.args.run.now) (TellsAdvice c.args.most)) (environment (g.S.Store.observed c.args.store.now) (g.K.Sink.observed c.args.out.now))
    (environment (g.S.Store.observed c.read_run.new.store) (g.K.Sink.observed c.tell.new.out)) outcome c.in_ok-report.report refl c.in_ok-ready.ensures.files does
    (c.in_ok-report.ensures.put [])
