use Rattle.std.proofs.Common.{◌∙◌, ap, refl, []}
use Rattle.std.proofs.lemmas.Result.{err_from_is_err_and}
use Rattle.wiz_trace.specs.DemoTexts.{demo_text}
use Rattle.wiz_runs.specs.Runs.{check_outcome, demo_task}
use Rattle.wiz_tool.specs.inside.Told.{outcome_written}
use Rattle.wiz_tool.specs.Environment.{environment}
use Rattle.wiz_runs.proofs.CommandLemmas.{demo_done, demo_unmet}
use Rattle.wiz_runs.proofs.DemoLemmas.{demo_short}
use Rattle.wiz_task.proofs.EndLemmas.{command_failed, done_short, done_told, put_short, put_same, put_told, told_text}
use Rattle.wiz_runs.proofs.commands.demo.demo.Goals as goal

pub accept_run-requires : goal.accept_run-requires
accept_run-requires g c = rw c.in_ok-text.ensures (demo_short c.args.seed c.args.rounds c.ranges.seed.fits c.ranges.rounds.fits)

pub returns-in_err-ready : goal.returns-in_err-ready
returns-in_err-ready g c =
    let p = err_from_is_err_and c.from_residual-in_err-ready.result c.from_residual-in_err-ready.ensures.1 in
    rw (p.1, p.2)
    (command_failed (demo_task c.args.seed c.args.rounds) (environment (g.S.Store.observed c.args.store.now) (g.K.Sink.observed c.args.out.now)) (environment (g.S.Store.observed c.args.store.now) (g.K.Sink.observed c.args.out.now))
    c.in_err-ready.field-0.0 (record { files = refl; out = refl }) (demo_unmet c.args.seed c.args.rounds (environment (g.S.Store.observed c.args.store.now) (g.K.Sink.observed c.args.out.now)) (environment (g.S.Store.observed c.args.store.now) (g.K.Sink.observed c.args.out.now)) c.in_err-ready.field-0.0 (rw c.in_ok-text.ensures at c.in_err-ready.ensures.refused)))

pub returns-in_err-report : goal.returns-in_err-report
returns-in_err-report g c =
    let p = err_from_is_err_and c.from_residual-in_err-report.result c.from_residual-in_err-report.ensures.1 in
    let does = demo_done c.args.seed c.args.rounds (environment (g.S.Store.observed c.args.store.now) (g.K.Sink.observed c.args.out.now)) c.in_ok-ready.ready c.in_ok-checked.checked
    (rw c.in_ok-text.ensures at c.in_ok-ready.ensures.ready) (rw c.requires.threads at c.in_ok-checked.ensures) in
    rw p.1
    (done_short (demo_task c.args.seed c.args.rounds) (environment (g.S.Store.observed c.args.store.now) (g.K.Sink.observed c.args.out.now))
    (environment (g.S.Store.observed c.args.store.now) (g.K.Sink.observed c.tell.new.out)) (check_outcome (demo_text c.args.seed c.args.rounds c.in_ok-checked.checked.recording.history.events c.in_ok-ready.ready.plan c.in_ok-checked.checked.replays c.in_ok-checked.checked.recording.ending) c.in_ok-checked.checked.recording c.in_ok-checked.checked.replays) c.in_err-report.field-0.0 _ p.2 does
    (put_short (check_outcome (demo_text c.args.seed c.args.rounds c.in_ok-checked.checked.recording.history.events c.in_ok-ready.ready.plan c.in_ok-checked.checked.replays c.in_ok-checked.checked.recording.ending) c.in_ok-checked.checked.recording c.in_ok-checked.checked.replays) (environment (g.S.Store.observed c.args.store.now) (g.K.Sink.observed c.args.out.now)) (environment (g.S.Store.observed c.args.store.now) (g.K.Sink.observed c.tell.new.out)) c.in_err-report.field-0.0 refl refl
    (rw (told_text c.told_by.result _ c.told_by.ensures, c.in_ok-text-2.ensures) at c.in_err-report.ensures.err)))

pub returns : goal.returns
returns g c =
    let does = demo_done c.args.seed c.args.rounds (environment (g.S.Store.observed c.args.store.now) (g.K.Sink.observed c.args.out.now)) c.in_ok-ready.ready c.in_ok-checked.checked
    (rw c.in_ok-text.ensures at c.in_ok-ready.ensures.ready) (rw c.requires.threads at c.in_ok-checked.ensures) in
    done_told (demo_task c.args.seed c.args.rounds) (environment (g.S.Store.observed c.args.store.now) (g.K.Sink.observed c.args.out.now))
    (environment (g.S.Store.observed c.args.store.now) (g.K.Sink.observed c.tell.new.out)) (check_outcome (demo_text c.args.seed c.args.rounds c.in_ok-checked.checked.recording.history.events c.in_ok-ready.ready.plan c.in_ok-checked.checked.replays c.in_ok-checked.checked.recording.ending) c.in_ok-checked.checked.recording c.in_ok-checked.checked.replays) c.in_ok-report.report does
    (put_told (check_outcome (demo_text c.args.seed c.args.rounds c.in_ok-checked.checked.recording.history.events c.in_ok-ready.ready.plan c.in_ok-checked.checked.replays c.in_ok-checked.checked.recording.ending) c.in_ok-checked.checked.recording c.in_ok-checked.checked.replays) (environment (g.S.Store.observed c.args.store.now) (g.K.Sink.observed c.args.out.now)) (environment (g.S.Store.observed c.args.store.now) (g.K.Sink.observed c.tell.new.out)) c.in_ok-report.report refl refl
    (put_same (outcome_written [] c.told_by.result) (check_outcome (demo_text c.args.seed c.args.rounds c.in_ok-checked.checked.recording.history.events c.in_ok-ready.ready.plan c.in_ok-checked.checked.replays c.in_ok-checked.checked.recording.ending) c.in_ok-checked.checked.recording c.in_ok-checked.checked.replays) (g.K.Sink.observed c.args.out.now) (g.K.Sink.observed c.tell.new.out) c.in_ok-report.report
    (c.told_by.ensures ∙ ap (λ text. check_outcome text c.in_ok-checked.checked.recording c.in_ok-checked.checked.replays) c.in_ok-text-2.ensures) (c.in_ok-report.ensures.put [])))
