use Rattle.std.proofs.Common.{[], refl}
use Rattle.std.proofs.lemmas.Result.{err_from_is_err_and}
use Rattle.wiz_tool.specs.inside.Told.{outcome_written}
use Rattle.wiz_tool.specs.Environment.{environment}
use Rattle.wiz_logs.proofs.DiffLemmas.{diff_done, runs_replayable}
use Rattle.wiz_task.proofs.EndLemmas.{command_failed, command_short, text_short, text_told}
use Rattle.wiz_logs.proofs.commands.diff.diff.Goals as goal
use Rattle.wiz_logs.specs.Logs.{diff_requirements, logs_task}
use Rattle.wiz_logs.specs.Comparisons.{Compares}

pub compare_runs-requires-clause-compared : goal.compare_runs-requires-clause-compared
compare_runs-requires-clause-compared g c = c.in_ok-runs.ensures.runs.2.can_compare

pub compare_runs-requires-clause-program : goal.compare_runs-requires-clause-program
compare_runs-requires-clause-program g c = c.in_ok-runs.ensures.runs.2.is_program

pub compare_runs-requires-clause-one : goal.compare_runs-requires-clause-one
compare_runs-requires-clause-one g c =
    let held = c.in_ok-runs.ensures.runs in (runs_replayable held.0 c.in_ok-runs.runs held.2).0

pub compare_runs-requires-clause-other : goal.compare_runs-requires-clause-other
compare_runs-requires-clause-other g c =
    let held = c.in_ok-runs.ensures.runs in (runs_replayable held.0 c.in_ok-runs.runs held.2).1

pub returns-in_err-runs : goal.returns-in_err-runs
returns-in_err-runs g c =
    let p = err_from_is_err_and c.from_residual.result c.from_residual.ensures.1 in
    rw (p.1, p.2)
    (command_failed (logs_task c.args.one.now c.args.other.now diff_requirements Compares) (environment (g.S.Store.observed c.args.store.now) (g.K.Sink.observed c.args.out.now)) (environment (g.S.Store.observed c.read_runs.new.store) (g.K.Sink.observed c.args.out.now))
    c.in_err-runs.field-0.0 (record { files = c.in_err-runs.ensures.files; out = refl }) c.in_err-runs.ensures.refused)

pub returns-in_err-done : goal.returns-in_err-done
returns-in_err-done g c =
    let p = err_from_is_err_and c.from_residual-in_err-done.result c.from_residual-in_err-done.ensures.1 in
    rw p.1
    (command_short (logs_task c.args.one.now c.args.other.now diff_requirements Compares) (environment (g.S.Store.observed c.args.store.now) (g.K.Sink.observed c.args.out.now)) (environment (g.S.Store.observed c.read_runs.new.store) (g.K.Sink.observed c.args.out.now)) _ p.2 (record { files = c.in_ok-runs.ensures.files; out = refl }))

pub returns-in_err-report : goal.returns-in_err-report
returns-in_err-report g c =
    let p = err_from_is_err_and c.from_residual-in_err-report.result c.from_residual-in_err-report.ensures.1 in
    let held = c.in_ok-runs.ensures.runs in
    let outcome = outcome_written [] c.in_ok-done.done in
    let does = diff_done c.args.one.now c.args.other.now (environment (g.S.Store.observed c.args.store.now) (g.K.Sink.observed c.args.out.now)) held.0 c.in_ok-runs.runs outcome held.1 held.2 c.in_ok-done.ensures in
    rw p.1
    (text_short (logs_task c.args.one.now c.args.other.now diff_requirements Compares) (environment (g.S.Store.observed c.args.store.now) (g.K.Sink.observed c.args.out.now)) (environment (g.S.Store.observed c.read_runs.new.store) (g.K.Sink.observed c.tell.new.out)) outcome c.in_err-report.field-0.0 _ p.2 refl
    c.in_ok-runs.ensures.files does c.in_err-report.ensures.err)

pub returns : goal.returns
returns g c =
    let held = c.in_ok-runs.ensures.runs in
    let outcome = outcome_written [] c.in_ok-done.done in
    let does = diff_done c.args.one.now c.args.other.now (environment (g.S.Store.observed c.args.store.now) (g.K.Sink.observed c.args.out.now)) held.0 c.in_ok-runs.runs outcome held.1 held.2 c.in_ok-done.ensures in
    text_told (logs_task c.args.one.now c.args.other.now diff_requirements Compares) (environment (g.S.Store.observed c.args.store.now) (g.K.Sink.observed c.args.out.now)) (environment (g.S.Store.observed c.read_runs.new.store) (g.K.Sink.observed c.tell.new.out)) outcome c.in_ok-report.report refl c.in_ok-runs.ensures.files does
    (c.in_ok-report.ensures.put [])
