use Rattle.std.proofs.Common.{[], refl}
use Rattle.std.proofs.lemmas.Result.{err_from_is_err_and}
use Rattle.wiz_logs.specs.Views.{view_with_texts}
use Rattle.wiz_words.specs.Texts.{replay_with_texts}
use Rattle.wiz_tool.specs.inside.Told.{outcome_written}
use Rattle.wiz_tool.specs.Environment.{environment}
use Rattle.wiz_task.proofs.EndLemmas.{command_failed, command_short, text_short, text_told}
use Rattle.wiz_logs.proofs.ViewLemmas.{view_done}
use Rattle.wiz_logs.proofs.commands.view.view.Goals as goal
use Rattle.wiz_logs.specs.Logs.{view_task}

pub view_subject-requires-clause-program : goal.view_subject-requires-clause-program
view_subject-requires-clause-program g c = c.in_ok-subject.ensures.subject.2.is_program

pub view_subject-requires-clause-log : goal.view_subject-requires-clause-log
view_subject-requires-clause-log g c = c.in_ok-subject.ensures.subject.2.replayable

pub returns-in_err-subject : goal.returns-in_err-subject
returns-in_err-subject g c =
    let p = err_from_is_err_and c.from_residual.result c.from_residual.ensures.1 in
    rw (p.1, p.2)
    (command_failed (view_task (replay_with_texts c.args.words.now) (view_with_texts c.args.asked.now)) (environment (g.S.Store.observed c.args.store.now) (g.K.Sink.observed c.args.out.now)) (environment (g.S.Store.observed c.read_subject.new.store) (g.K.Sink.observed c.args.out.now)) c.in_err-subject.field-0.0 (record { files = c.in_err-subject.ensures.files; out = refl })
    c.in_err-subject.ensures.refused)

pub returns-in_err-done : goal.returns-in_err-done
returns-in_err-done g c =
    let p = err_from_is_err_and c.from_residual-in_err-done.result c.from_residual-in_err-done.ensures.1 in
    rw p.1
    (command_short (view_task (replay_with_texts c.args.words.now) (view_with_texts c.args.asked.now)) (environment (g.S.Store.observed c.args.store.now) (g.K.Sink.observed c.args.out.now)) (environment (g.S.Store.observed c.read_subject.new.store) (g.K.Sink.observed c.args.out.now)) _ p.2 (record { files = c.in_ok-subject.ensures.files; out = refl }))

pub returns-in_err-report : goal.returns-in_err-report
returns-in_err-report g c =
    let p = err_from_is_err_and c.from_residual-in_err-report.result c.from_residual-in_err-report.ensures.1 in
    let subject = c.in_ok-subject.ensures.subject in
    let outcome = outcome_written [] c.in_ok-done.done in
    let does = view_done (replay_with_texts c.args.words.now) (view_with_texts c.args.asked.now) (environment (g.S.Store.observed c.args.store.now) (g.K.Sink.observed c.args.out.now)) subject.0 c.in_ok-subject.subject outcome subject.1 subject.2 c.in_ok-done.ensures in
    rw p.1
    (text_short (view_task (replay_with_texts c.args.words.now) (view_with_texts c.args.asked.now)) (environment (g.S.Store.observed c.args.store.now) (g.K.Sink.observed c.args.out.now)) (environment (g.S.Store.observed c.read_subject.new.store) (g.K.Sink.observed c.tell.new.out)) outcome c.in_err-report.field-0.0 _ p.2 refl c.in_ok-subject.ensures.files does c.in_err-report.ensures.err)

pub returns : goal.returns
returns g c =
    let subject = c.in_ok-subject.ensures.subject in
    let outcome = outcome_written [] c.in_ok-done.done in
    let does = view_done (replay_with_texts c.args.words.now) (view_with_texts c.args.asked.now) (environment (g.S.Store.observed c.args.store.now) (g.K.Sink.observed c.args.out.now)) subject.0 c.in_ok-subject.subject outcome subject.1 subject.2 c.in_ok-done.ensures in
    text_told (view_task (replay_with_texts c.args.words.now) (view_with_texts c.args.asked.now)) (environment (g.S.Store.observed c.args.store.now) (g.K.Sink.observed c.args.out.now)) (environment (g.S.Store.observed c.read_subject.new.store) (g.K.Sink.observed c.tell.new.out)) outcome c.in_ok-report.report refl c.in_ok-subject.ensures.files does (c.in_ok-report.ensures.put [])
