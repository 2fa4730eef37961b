use Rattle.c_program.specs.View.{pure_program}
use Rattle.std.proofs.Common.{refl, subst, Ok, Err}
use Rattle.std.proofs.lemmas.Result.{err_from_is_err_and}
use Rattle.log_bounds.specs.RunBounds.{RepliesFit32}
use Rattle.wiz_logs.specs.Regroupings.{join_outcome, Joins}
use Rattle.wiz_tool.specs.Environment.{environment}
use Rattle.wiz_task.proofs.EndLemmas.{command_failed, command_short, done_short, done_told, told_from}
use Rattle.wiz_logs.proofs.RegroupLemmas.{join_done, other_program, pair_joinable, pair_replayable}
use Rattle.wiz_logs.proofs.commands.join.join.Goals as goal
use Rattle.wiz_logs.specs.Logs.{join_requirements, logs_task}

pub replay_own-requires-clause-program : goal.replay_own-requires-clause-program
replay_own-requires-clause-program g c = c.in_ok-pair.ensures.pair.2.is_program

pub replay_own-requires-clause-log : goal.replay_own-requires-clause-log
replay_own-requires-clause-log g c =
    let held = c.in_ok-pair.ensures.pair in (pair_replayable held.0 c.in_ok-pair.pair held.2).0

pub replay_own-requires-2-clause-program : goal.replay_own-requires-2-clause-program
replay_own-requires-2-clause-program g c =
    let is = c.in_ok-pair.ensures.pair.2 in
    other_program c.in_ok-pair.pair.one c.in_ok-pair.pair.other (pure_program c.in_ok-pair.pair.program) is.can_join is.is_program

pub replay_own-requires-2-clause-log : goal.replay_own-requires-2-clause-log
replay_own-requires-2-clause-log g c =
    let held = c.in_ok-pair.ensures.pair in (pair_replayable held.0 c.in_ok-pair.pair held.2).1

pub tell_replayed-requires : goal.tell_replayed-requires
tell_replayed-requires g c =
    let held = c.in_ok-pair.ensures.pair in
    pair_joinable held.0 c.in_ok-pair.pair c.in_ok-first.first c.in_ok-second.second held.2 c.in_ok-first.ensures c.in_ok-second.ensures

pub returns-in_err-pair : goal.returns-in_err-pair
returns-in_err-pair g c =
    let p = err_from_is_err_and c.from_residual.result c.from_residual.ensures.1 in
    rw (p.1, p.2)
    (command_failed (logs_task c.args.one.now c.args.other.now join_requirements (Joins c.args.file.now)) (environment (g.S.Store.observed c.args.store.now) (g.K.Sink.observed c.args.out.now)) (environment (g.S.Store.observed c.read_pair.new.store) (g.K.Sink.observed c.args.out.now))
    c.in_err-pair.field-0.0 (record { files = c.in_err-pair.ensures.files; out = refl }) c.in_err-pair.ensures.refused)

pub returns-in_err-first : goal.returns-in_err-first
returns-in_err-first g c =
    let p = err_from_is_err_and c.from_residual-in_err-first.result c.from_residual-in_err-first.ensures.1 in
    rw p.1
    (command_short (logs_task c.args.one.now c.args.other.now join_requirements (Joins c.args.file.now)) (environment (g.S.Store.observed c.args.store.now) (g.K.Sink.observed c.args.out.now)) (environment (g.S.Store.observed c.read_pair.new.store) (g.K.Sink.observed c.args.out.now)) _ p.2 (record { files = c.in_ok-pair.ensures.files; out = refl }))

pub returns-in_err-second : goal.returns-in_err-second
returns-in_err-second g c =
    let p = err_from_is_err_and c.from_residual-in_err-second.result c.from_residual-in_err-second.ensures.1 in
    rw p.1
    (command_short (logs_task c.args.one.now c.args.other.now join_requirements (Joins c.args.file.now)) (environment (g.S.Store.observed c.args.store.now) (g.K.Sink.observed c.args.out.now)) (environment (g.S.Store.observed c.read_pair.new.store) (g.K.Sink.observed c.args.out.now)) _ p.2 (record { files = c.in_ok-pair.ensures.files; out = refl }))

pub returns-in_err-report : goal.returns-in_err-report
returns-in_err-report g c =
    let p = err_from_is_err_and c.from_residual-in_err-report.result c.from_residual-in_err-report.ensures.1 in
    let held = c.in_ok-pair.ensures.pair in
    let does = join_done c.args.one.now c.args.other.now c.args.file.now (environment (g.S.Store.observed c.args.store.now) (g.K.Sink.observed c.args.out.now)) held.0 c.in_ok-pair.pair c.in_ok-first.first c.in_ok-second.second
    held.1 held.2 c.in_ok-first.ensures c.in_ok-second.ensures (subst RepliesFit32 c.as_slice.ensures.events c.replies_fit.ensures)
    (subst RepliesFit32 c.as_slice-2.ensures.events c.replies_fit-2.ensures) in
    rw p.1
    (done_short (logs_task c.args.one.now c.args.other.now join_requirements (Joins c.args.file.now)) (environment (g.S.Store.observed c.args.store.now) (g.K.Sink.observed c.args.out.now))
    (environment (g.S.Store.observed c.tell_replayed.new.store) (g.K.Sink.observed c.tell_replayed.new.out)) (join_outcome c.args.file.now c.in_ok-pair.pair.one c.in_ok-first.first c.in_ok-pair.pair.other c.in_ok-second.second) c.in_err-report.field-0.0 _ p.2 does
    (told_from (join_outcome c.args.file.now c.in_ok-pair.pair.one c.in_ok-first.first c.in_ok-pair.pair.other c.in_ok-second.second) (environment (g.S.Store.observed c.args.store.now) (g.K.Sink.observed c.args.out.now))
    (environment (g.S.Store.observed c.read_pair.new.store) (g.K.Sink.observed c.args.out.now)) (environment (g.S.Store.observed c.tell_replayed.new.store) (g.K.Sink.observed c.tell_replayed.new.out)) (Err c.in_err-report.field-0.0) c.in_ok-pair.ensures.files c.in_ok-pair.ensures.writes refl c.in_err-report.ensures.told))

pub returns : goal.returns
returns g c =
    let held = c.in_ok-pair.ensures.pair in
    let does = join_done c.args.one.now c.args.other.now c.args.file.now (environment (g.S.Store.observed c.args.store.now) (g.K.Sink.observed c.args.out.now)) held.0 c.in_ok-pair.pair c.in_ok-first.first c.in_ok-second.second
    held.1 held.2 c.in_ok-first.ensures c.in_ok-second.ensures (subst RepliesFit32 c.as_slice.ensures.events c.replies_fit.ensures)
    (subst RepliesFit32 c.as_slice-2.ensures.events c.replies_fit-2.ensures) in
    done_told (logs_task c.args.one.now c.args.other.now join_requirements (Joins c.args.file.now)) (environment (g.S.Store.observed c.args.store.now) (g.K.Sink.observed c.args.out.now))
    (environment (g.S.Store.observed c.tell_replayed.new.store) (g.K.Sink.observed c.tell_replayed.new.out)) (join_outcome c.args.file.now c.in_ok-pair.pair.one c.in_ok-first.first c.in_ok-pair.pair.other c.in_ok-second.second) c.in_ok-report.report does
    (told_from (join_outcome c.args.file.now c.in_ok-pair.pair.one c.in_ok-first.first c.in_ok-pair.pair.other c.in_ok-second.second) (environment (g.S.Store.observed c.args.store.now) (g.K.Sink.observed c.args.out.now))
    (environment (g.S.Store.observed c.read_pair.new.store) (g.K.Sink.observed c.args.out.now)) (environment (g.S.Store.observed c.tell_replayed.new.store) (g.K.Sink.observed c.tell_replayed.new.out)) (Ok c.in_ok-report.report) c.in_ok-pair.ensures.files c.in_ok-pair.ensures.writes refl c.in_ok-report.ensures.told)
