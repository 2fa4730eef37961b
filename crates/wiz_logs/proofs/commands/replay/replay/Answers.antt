use Rattle.std.proofs.Common.{refl}
use Rattle.std.proofs.lemmas.Result.{err_from_is_err_and}
use Rattle.wiz_words.specs.Texts.{replay_with_texts}
use Rattle.wiz_logs.specs.Logs.{replay_outcome, TellsReplay, replay_task}
use Rattle.wiz_tool.specs.Environment.{environment}
use Rattle.wiz_logs.proofs.ReplayLemmas.{replay_done}
use Rattle.wiz_task.proofs.EndLemmas.{command_failed, command_short, done_short, done_told, put_short, put_told}
use Rattle.wiz_logs.proofs.commands.replay.replay.Goals as goal

pub replay_text-requires-clause-program : goal.replay_text-requires-clause-program
replay_text-requires-clause-program g c = rw c.used_text-text.ensures c.in_ok-subject.ensures.subject.2.is_program

pub replay_text-requires-clause-log : goal.replay_text-requires-clause-log
replay_text-requires-clause-log g c = c.in_ok-subject.ensures.subject.2.replayable

pub returns-in_err-subject : goal.returns-in_err-subject
returns-in_err-subject g c =
    let p = err_from_is_err_and c.from_residual.result c.from_residual.ensures.1 in
    rw (p.1, p.2)
    (command_failed (replay_task (replay_with_texts c.args.words.now) TellsReplay) (environment (g.S.Store.observed c.args.store.now) (g.K.Sink.observed c.args.out.now)) (environment (g.S.Store.observed c.read_subject.new.store) (g.K.Sink.observed c.args.out.now))
    c.in_err-subject.field-0.0 (record { files = c.in_err-subject.ensures.files; out = refl }) c.in_err-subject.ensures.refused)

pub returns-in_err-replayed : goal.returns-in_err-replayed
returns-in_err-replayed g c =
    let p = err_from_is_err_and c.from_residual-in_err-replayed.result c.from_residual-in_err-replayed.ensures.1 in
    rw p.1
    (command_short (replay_task (replay_with_texts c.args.words.now) TellsReplay) (environment (g.S.Store.observed c.args.store.now) (g.K.Sink.observed c.args.out.now)) (environment (g.S.Store.observed c.read_subject.new.store) (g.K.Sink.observed c.args.out.now)) _ p.2 (record { files = c.in_ok-subject.ensures.files; out = refl }))

pub returns-in_err-report : goal.returns-in_err-report
returns-in_err-report g c =
    let p = err_from_is_err_and c.from_residual-in_err-report.result c.from_residual-in_err-report.ensures.1 in
    let subject = c.in_ok-subject.ensures.subject in
    let does = replay_done (replay_with_texts c.args.words.now) (environment (g.S.Store.observed c.args.store.now) (g.K.Sink.observed c.args.out.now)) subject.0 c.in_ok-subject.subject c.in_ok-replayed.replayed
    subject.1 subject.2 (rw c.used_text-text.ensures at c.in_ok-replayed.ensures) in
    rw p.1
    (done_short (replay_task (replay_with_texts c.args.words.now) TellsReplay) (environment (g.S.Store.observed c.args.store.now) (g.K.Sink.observed c.args.out.now))
    (environment (g.S.Store.observed c.read_subject.new.store) (g.K.Sink.observed c.tell_replay.new.out)) (replay_outcome c.in_ok-replayed.replayed) c.in_err-report.field-0.0 _ p.2 does
    (put_short (replay_outcome c.in_ok-replayed.replayed) (environment (g.S.Store.observed c.args.store.now) (g.K.Sink.observed c.args.out.now)) (environment (g.S.Store.observed c.read_subject.new.store) (g.K.Sink.observed c.tell_replay.new.out)) c.in_err-report.field-0.0 refl c.in_ok-subject.ensures.files c.in_err-report.ensures.err))

pub returns : goal.returns
returns g c =
    let subject = c.in_ok-subject.ensures.subject in
    let does = replay_done (replay_with_texts c.args.words.now) (environment (g.S.Store.observed c.args.store.now) (g.K.Sink.observed c.args.out.now)) subject.0 c.in_ok-subject.subject c.in_ok-replayed.replayed
    subject.1 subject.2 (rw c.used_text-text.ensures at c.in_ok-replayed.ensures) in
    done_told (replay_task (replay_with_texts c.args.words.now) TellsReplay) (environment (g.S.Store.observed c.args.store.now) (g.K.Sink.observed c.args.out.now))
    (environment (g.S.Store.observed c.read_subject.new.store) (g.K.Sink.observed c.tell_replay.new.out)) (replay_outcome c.in_ok-replayed.replayed) c.in_ok-report.report does
    (put_told (replay_outcome c.in_ok-replayed.replayed) (environment (g.S.Store.observed c.args.store.now) (g.K.Sink.observed c.args.out.now)) (environment (g.S.Store.observed c.read_subject.new.store) (g.K.Sink.observed c.tell_replay.new.out)) c.in_ok-report.report refl c.in_ok-subject.ensures.files c.in_ok-report.ensures.put)
