use Rattle.std.proofs.Common.{◌∙◌, ap, refl, []}
use Rattle.std.proofs.lemmas.Result.{err_from_is_err_and}
use Rattle.wiz_trace.specs.CheckTexts.{check_text}
use Rattle.wiz_words.specs.Texts.{run_with_texts}
use Rattle.wiz_runs.specs.Runs.{check_outcome, TellsCheck, checked, run_task}
use Rattle.wiz_tool.specs.inside.Told.{outcome_written}
use Rattle.wiz_tool.specs.Environment.{environment}
use Rattle.wiz_runs.proofs.CommandLemmas.{check_done}
use Rattle.wiz_task.proofs.EndLemmas.{command_failed, command_short, done_short, done_told, put_short, put_same, put_told, told_text}
use Rattle.wiz_runs.proofs.commands.check.check.Goals as goal

pub returns-in_err-ready : goal.returns-in_err-ready
returns-in_err-ready g c =
    let p = err_from_is_err_and c.from_residual.result c.from_residual.ensures.1 in
    rw (p.1, p.2)
    (command_failed (run_task (run_with_texts c.args.run.now) (TellsCheck checked)) (environment (g.S.Store.observed c.args.store.now) (g.K.Sink.observed c.args.out.now)) (environment (g.S.Store.observed c.read_run.new.store) (g.K.Sink.observed c.args.out.now))
    c.in_err-ready.field-0.0 (record { files = c.in_err-ready.ensures.files; out = refl }) c.in_err-ready.ensures.refused)

pub returns-in_err-checked : goal.returns-in_err-checked
returns-in_err-checked g c =
    let p = err_from_is_err_and c.from_residual-in_err-checked.result c.from_residual-in_err-checked.ensures.1 in
    rw p.1
    (command_short (run_task (run_with_texts c.args.run.now) (TellsCheck checked)) (environment (g.S.Store.observed c.args.store.now) (g.K.Sink.observed c.args.out.now)) (environment (g.S.Store.observed c.read_run.new.store) (g.K.Sink.observed c.args.out.now)) _ p.2 (record { files = c.in_ok-ready.ensures.files; out = refl }))

pub returns-in_err-text : goal.returns-in_err-text
returns-in_err-text g c =
    let p = err_from_is_err_and c.from_residual-in_err-text.result c.from_residual-in_err-text.ensures.1 in
    rw p.1
    (command_short (run_task (run_with_texts c.args.run.now) (TellsCheck checked)) (environment (g.S.Store.observed c.args.store.now) (g.K.Sink.observed c.args.out.now)) (environment (g.S.Store.observed c.read_run.new.store) (g.K.Sink.observed c.args.out.now)) _ p.2 (record { files = c.in_ok-ready.ensures.files; out = refl }))

pub returns-in_err-report : goal.returns-in_err-report
returns-in_err-report g c =
    let p = err_from_is_err_and c.from_residual-in_err-report.result c.from_residual-in_err-report.ensures.1 in
    let ready = c.in_ok-ready.ensures.ready in
    let does = check_done (run_with_texts c.args.run.now) (environment (g.S.Store.observed c.args.store.now) (g.K.Sink.observed c.args.out.now)) ready.0 c.in_ok-ready.ready c.in_ok-checked.checked
    ready.1 ready.2 (rw c.requires.threads at c.in_ok-checked.ensures) in
    rw p.1
    (done_short (run_task (run_with_texts c.args.run.now) (TellsCheck checked)) (environment (g.S.Store.observed c.args.store.now) (g.K.Sink.observed c.args.out.now))
    (environment (g.S.Store.observed c.read_run.new.store) (g.K.Sink.observed c.tell.new.out)) (check_outcome (check_text c.in_ok-ready.ready.plan c.in_ok-checked.checked.replays c.in_ok-checked.checked.recording.ending) c.in_ok-checked.checked.recording c.in_ok-checked.checked.replays) c.in_err-report.field-0.0 _ p.2 does
    (put_short (check_outcome (check_text c.in_ok-ready.ready.plan c.in_ok-checked.checked.replays c.in_ok-checked.checked.recording.ending) c.in_ok-checked.checked.recording c.in_ok-checked.checked.replays) (environment (g.S.Store.observed c.args.store.now) (g.K.Sink.observed c.args.out.now)) (environment (g.S.Store.observed c.read_run.new.store) (g.K.Sink.observed c.tell.new.out)) c.in_err-report.field-0.0 refl c.in_ok-ready.ensures.files
    (rw (told_text c.told_by.result _ c.told_by.ensures, c.in_ok-text.ensures) at c.in_err-report.ensures.err)))

pub returns : goal.returns
returns g c =
    let ready = c.in_ok-ready.ensures.ready in
    let does = check_done (run_with_texts c.args.run.now) (environment (g.S.Store.observed c.args.store.now) (g.K.Sink.observed c.args.out.now)) ready.0 c.in_ok-ready.ready c.in_ok-checked.checked
    ready.1 ready.2 (rw c.requires.threads at c.in_ok-checked.ensures) in
    done_told (run_task (run_with_texts c.args.run.now) (TellsCheck checked)) (environment (g.S.Store.observed c.args.store.now) (g.K.Sink.observed c.args.out.now))
    (environment (g.S.Store.observed c.read_run.new.store) (g.K.Sink.observed c.tell.new.out)) (check_outcome (check_text c.in_ok-ready.ready.plan c.in_ok-checked.checked.replays c.in_ok-checked.checked.recording.ending) c.in_ok-checked.checked.recording c.in_ok-checked.checked.replays) c.in_ok-report.report does
    (put_told (check_outcome (check_text c.in_ok-ready.ready.plan c.in_ok-checked.checked.replays c.in_ok-checked.checked.recording.ending) c.in_ok-checked.checked.recording c.in_ok-checked.checked.replays) (environment (g.S.Store.observed c.args.store.now) (g.K.Sink.observed c.args.out.now)) (environment (g.S.Store.observed c.read_run.new.store) (g.K.Sink.observed c.tell.new.out)) c.in_ok-report.report refl c.in_ok-ready.ensures.files
    (put_same (outcome_written [] c.told_by.result) (check_outcome (check_text c.in_ok-ready.ready.plan c.in_ok-checked.checked.replays c.in_ok-checked.checked.recording.ending) c.in_ok-checked.checked.recording c.in_ok-checked.checked.replays) (g.K.Sink.observed c.args.out.now) (g.K.Sink.observed c.tell.new.out) c.in_ok-report.report
    (c.told_by.ensures ∙ ap (λ text. check_outcome text c.in_ok-checked.checked.recording c.in_ok-checked.checked.replays) c.in_ok-text.ensures) (c.in_ok-report.ensures.put [])))
