use Rattle.std.proofs.Common.{refl, subst, Ok, Err}
use Rattle.std.proofs.lemmas.Result.{err_from_is_err_and}
use Rattle.log_bounds.specs.RunBounds.{RepliesFit32}
use Rattle.wiz_logs.specs.Regroupings.{refine_outcome}
use Rattle.wiz_tool.specs.Environment.{environment}
use Rattle.wiz_task.proofs.EndLemmas.{command_failed, command_short, done_short, done_told, told_from}
use Rattle.wiz_logs.proofs.RegroupLemmas.{refine_done, refinement_regroupable, refinement_replayable}
use Rattle.wiz_logs.proofs.commands.refine.refine.Goals as goal
use Rattle.wiz_logs.specs.Logs.{refine_task}

pub replay_own-requires-clause-program : goal.replay_own-requires-clause-program
replay_own-requires-clause-program g c = c.in_ok-refinement.ensures.refinement.2.is_program

pub replay_own-requires-clause-log : goal.replay_own-requires-clause-log
replay_own-requires-clause-log g c =
    let held = c.in_ok-refinement.ensures.refinement in refinement_replayable held.0 c.in_ok-refinement.refinement held.2

pub tell_replayed-requires : goal.tell_replayed-requires
tell_replayed-requires g c =
    let held = c.in_ok-refinement.ensures.refinement in
    refinement_regroupable held.0 c.in_ok-refinement.refinement c.in_ok-replayed.replayed held.2 c.in_ok-replayed.ensures

pub returns-in_err-refinement : goal.returns-in_err-refinement
returns-in_err-refinement g c =
    let p = err_from_is_err_and c.from_residual.result c.from_residual.ensures.1 in
    rw (p.1, p.2)
    (command_failed (refine_task c.args.name.now c.args.plan.now c.args.prefix.now) (environment (g.S.Store.observed c.args.store.now) (g.K.Sink.observed c.args.out.now)) (environment (g.S.Store.observed c.read_refinement.new.store) (g.K.Sink.observed c.args.out.now))
    c.in_err-refinement.field-0.0 (record { files = c.in_err-refinement.ensures.files; out = refl }) c.in_err-refinement.ensures.refused)

pub returns-in_err-replayed : goal.returns-in_err-replayed
returns-in_err-replayed g c =
    let p = err_from_is_err_and c.from_residual-in_err-replayed.result c.from_residual-in_err-replayed.ensures.1 in
    rw p.1
    (command_short (refine_task c.args.name.now c.args.plan.now c.args.prefix.now) (environment (g.S.Store.observed c.args.store.now) (g.K.Sink.observed c.args.out.now)) (environment (g.S.Store.observed c.read_refinement.new.store) (g.K.Sink.observed c.args.out.now)) _ p.2 (record { files = c.in_ok-refinement.ensures.files; out = refl }))

pub returns-in_err-report : goal.returns-in_err-report
returns-in_err-report g c =
    let p = err_from_is_err_and c.from_residual-in_err-report.result c.from_residual-in_err-report.ensures.1 in
    let held = c.in_ok-refinement.ensures.refinement in
    let does = refine_done c.args.name.now c.args.plan.now c.args.prefix.now (environment (g.S.Store.observed c.args.store.now) (g.K.Sink.observed c.args.out.now)) held.0 c.in_ok-refinement.refinement c.in_ok-replayed.replayed
    held.1 held.2 c.groups_rise.ensures c.in_ok-replayed.ensures (subst RepliesFit32 c.as_slice.ensures.events c.replies_fit.ensures) in
    rw p.1
    (done_short (refine_task c.args.name.now c.args.plan.now c.args.prefix.now) (environment (g.S.Store.observed c.args.store.now) (g.K.Sink.observed c.args.out.now))
    (environment (g.S.Store.observed c.tell_replayed.new.store) (g.K.Sink.observed c.tell_replayed.new.out)) (refine_outcome c.args.prefix.now c.in_ok-refinement.refinement.log c.in_ok-refinement.refinement.plan c.in_ok-replayed.replayed) c.in_err-report.field-0.0 _ p.2 does
    (told_from (refine_outcome c.args.prefix.now c.in_ok-refinement.refinement.log c.in_ok-refinement.refinement.plan c.in_ok-replayed.replayed) (environment (g.S.Store.observed c.args.store.now) (g.K.Sink.observed c.args.out.now))
    (environment (g.S.Store.observed c.read_refinement.new.store) (g.K.Sink.observed c.args.out.now)) (environment (g.S.Store.observed c.tell_replayed.new.store) (g.K.Sink.observed c.tell_replayed.new.out)) (Err c.in_err-report.field-0.0) c.in_ok-refinement.ensures.files c.in_ok-refinement.ensures.writes refl c.in_err-report.ensures.told))

pub returns : goal.returns
returns g c =
    let held = c.in_ok-refinement.ensures.refinement in
    let does = refine_done c.args.name.now c.args.plan.now c.args.prefix.now (environment (g.S.Store.observed c.args.store.now) (g.K.Sink.observed c.args.out.now)) held.0 c.in_ok-refinement.refinement c.in_ok-replayed.replayed
    held.1 held.2 c.groups_rise.ensures c.in_ok-replayed.ensures (subst RepliesFit32 c.as_slice.ensures.events c.replies_fit.ensures) in
    done_told (refine_task c.args.name.now c.args.plan.now c.args.prefix.now) (environment (g.S.Store.observed c.args.store.now) (g.K.Sink.observed c.args.out.now))
    (environment (g.S.Store.observed c.tell_replayed.new.store) (g.K.Sink.observed c.tell_replayed.new.out)) (refine_outcome c.args.prefix.now c.in_ok-refinement.refinement.log c.in_ok-refinement.refinement.plan c.in_ok-replayed.replayed) c.in_ok-report.report does
    (told_from (refine_outcome c.args.prefix.now c.in_ok-refinement.refinement.log c.in_ok-refinement.refinement.plan c.in_ok-replayed.replayed) (environment (g.S.Store.observed c.args.store.now) (g.K.Sink.observed c.args.out.now))
    (environment (g.S.Store.observed c.read_refinement.new.store) (g.K.Sink.observed c.args.out.now)) (environment (g.S.Store.observed c.tell_replayed.new.store) (g.K.Sink.observed c.tell_replayed.new.out)) (Ok c.in_ok-report.report) c.in_ok-refinement.ensures.files c.in_ok-refinement.ensures.writes refl c.in_ok-report.ensures.told)
