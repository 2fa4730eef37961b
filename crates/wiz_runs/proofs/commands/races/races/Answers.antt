use Rattle.std.proofs.Common.{refl, Ok, Err}
use Rattle.std.specs.Prelude.{option_map}
use Rattle.std.proofs.lemmas.Result.{err_from_is_err_and}
use Rattle.group_plan.specs.Plans.{number_of_ranks}
use Rattle.wiz_words.specs.Texts.{run_with_texts}
use Rattle.wiz_runs.specs.Runs.{races_outcome, TellsRaces, run_task}
use Rattle.wiz_tool.specs.Environment.{environment}
use Rattle.wiz_runs.proofs.CommandLemmas.{races_done}
use Rattle.wiz_task.proofs.EndLemmas.{command_failed, command_short, done_short, done_told, told_from}
use Rattle.wiz_runs.proofs.RecordingLemmas.{made_on_threads}
use Rattle.wiz_runs.proofs.commands.races.races.Goals as goal

pub races_of-requires : goal.races_of-requires
races_of-requires g c = made_on_threads _ _ _ c.in_ok-recording.ensures

pub others_are_recorded-requires : goal.others_are_recorded-requires
others_are_recorded-requires g c = made_on_threads _ _ _ c.in_ok-recording.ensures

pub write-requires : goal.write-requires
write-requires g c = made_on_threads _ _ _ c.in_ok-recording.ensures

pub returns-in_err-ready : goal.returns-in_err-ready
returns-in_err-ready g c =
    let p = err_from_is_err_and c.from_residual.result c.from_residual.ensures.1 in
    rw (p.1, p.2)
    (command_failed (run_task (run_with_texts c.args.run.now) (TellsRaces (option_map (λ text. text.now) c.args.orders))) (environment (g.S.Store.observed c.args.store.now) (g.K.Sink.observed c.args.out.now))
    (environment (g.S.Store.observed c.read_run.new.store) (g.K.Sink.observed c.args.out.now))
    c.in_err-ready.field-0.0 (record { files = c.in_err-ready.ensures.files; out = refl }) c.in_err-ready.ensures.refused)

pub returns-in_err-recording : goal.returns-in_err-recording
returns-in_err-recording g c =
    let p = err_from_is_err_and c.from_residual-in_err-recording.result c.from_residual-in_err-recording.ensures.1 in
    rw p.1
    (command_short (run_task (run_with_texts c.args.run.now) (TellsRaces (option_map (λ text. text.now) c.args.orders))) (environment (g.S.Store.observed c.args.store.now) (g.K.Sink.observed c.args.out.now))
    (environment (g.S.Store.observed c.read_run.new.store) (g.K.Sink.observed c.args.out.now)) _ p.2 (record { files = c.in_ok-ready.ensures.files; out = refl }))

pub returns-in_err-told : goal.returns-in_err-told
returns-in_err-told g c =
    let p = err_from_is_err_and c.from_residual-in_err-told.result c.from_residual-in_err-told.ensures.1 in
    rw p.1
    (command_short (run_task (run_with_texts c.args.run.now) (TellsRaces (option_map (λ text. text.now) c.args.orders))) (environment (g.S.Store.observed c.args.store.now) (g.K.Sink.observed c.args.out.now))
    (environment (g.S.Store.observed c.read_run.new.store) (g.K.Sink.observed c.args.out.now)) _ p.2 (record { files = c.in_ok-ready.ensures.files; out = refl }))

pub returns-in_err-report : goal.returns-in_err-report
returns-in_err-report g c =
    let p = err_from_is_err_and c.from_residual-in_err-report.result c.from_residual-in_err-report.ensures.1 in
    let orders = option_map (λ text. text.now) c.args.orders in
    let before = environment (g.S.Store.observed c.args.store.now) (g.K.Sink.observed c.args.out.now) in
    let mid = environment (g.S.Store.observed c.read_run.new.store) (g.K.Sink.observed c.args.out.now) in
    let after = environment (g.S.Store.observed c.write.new.store) (g.K.Sink.observed c.write.new.out) in
    let ready = c.in_ok-ready.ensures.ready in
    let of = c.in_ok-told.ensures in
    let outcome = races_outcome orders (number_of_ranks c.in_ok-ready.ready.plan) of.0 c.in_ok-recording.recording in
    let does = races_done (run_with_texts c.args.run.now) orders before ready.0 c.in_ok-ready.ready c.in_ok-recording.recording c.in_ok-told.told
    ready.1 ready.2 (rw c.requires.threads at c.in_ok-recording.ensures) of c.others_are_recorded.ensures in
    rw p.1
    (done_short (run_task (run_with_texts c.args.run.now) (TellsRaces orders)) before after outcome c.in_err-report.field-0.0 _ p.2 does
    (told_from outcome before mid after (Err c.in_err-report.field-0.0) c.in_ok-ready.ensures.files c.in_ok-ready.ensures.writes refl
    (c.in_err-report.ensures.told of.0 of.3)))

pub returns : goal.returns
returns g c =
    let orders = option_map (λ text. text.now) c.args.orders in
    let before = environment (g.S.Store.observed c.args.store.now) (g.K.Sink.observed c.args.out.now) in
    let mid = environment (g.S.Store.observed c.read_run.new.store) (g.K.Sink.observed c.args.out.now) in
    let after = environment (g.S.Store.observed c.write.new.store) (g.K.Sink.observed c.write.new.out) in
    let ready = c.in_ok-ready.ensures.ready in
    let of = c.in_ok-told.ensures in
    let outcome = races_outcome orders (number_of_ranks c.in_ok-ready.ready.plan) of.0 c.in_ok-recording.recording in
    let does = races_done (run_with_texts c.args.run.now) orders before ready.0 c.in_ok-ready.ready c.in_ok-recording.recording c.in_ok-told.told
    ready.1 ready.2 (rw c.requires.threads at c.in_ok-recording.ensures) of c.others_are_recorded.ensures in
    done_told (run_task (run_with_texts c.args.run.now) (TellsRaces orders)) before after outcome c.in_ok-report.report does
    (told_from outcome before mid after (Ok c.in_ok-report.report) c.in_ok-ready.ensures.files c.in_ok-ready.ensures.writes refl
    (c.in_ok-report.ensures.told of.0 of.3))
