use Rattle.std.proofs.Common.{◌∙◌, arith, refl}
use Rattle.std.proofs.lemmas.Option.{slice_get-get_or}
use Rattle.std.proofs.lemmas.Result.{err_from_is_err_and}
use Rattle.wiz_tool.proofs.FileLemmas.{AreWritten-none}
use Rattle.wiz_runs.proofs.RaceFiles.{more_written, then_stopped}
use Rattle.wiz_runs.proofs.commands.race_orders.write_each.Goals as goal

pub returns-in_err-write_order-clause-stopped : goal.returns-in_err-write_order-clause-stopped
returns-in_err-write_order-clause-stopped g c =
    let p = err_from_is_err_and c.from_residual.result c.from_residual.ensures.1 in
    rw (p.1, p.2)
    (then_stopped c.args.prefix.now c.args.recording.now c.args.others.now c.loop-other.other-index _ (g.S.Store.observed c.args.store.now) (g.S.Store.observed c.loop-other.store)
    (g.S.Store.observed c.write_order.new.store) c.in_err-write_order.field-0.0 c.requires (slice_get-get_or c.args.others.now c.loop-other.other-index _ c.loop-other-test.true)
    c.loop-other.invariant.written c.in_err-write_order.ensures.stopped c.loop-other.invariant.later)

pub loop-other-init : goal.loop-other-init
loop-other-init g c = record { written = AreWritten-none (g.S.Store.observed c.args.store.now).files; reads = refl; later = omega arith }

pub loop-other-preserved : goal.loop-other-preserved
loop-other-preserved g c = record {
  written =
      more_written c.args.prefix.now c.args.recording.now c.args.others.now c.loop-other.other-index _ (g.S.Store.observed c.args.store.now).files
      (g.S.Store.observed c.loop-other.store).files (g.S.Store.observed c.write_order.new.store).files c.requires
      (slice_get-get_or c.args.others.now c.loop-other.other-index _ c.loop-other-test.true) c.loop-other.invariant.written c.in_ok-write_order.ensures.ok;
  reads = c.in_ok-write_order.ensures.reads ∙ c.loop-other.invariant.reads;
  later = omega (arith, c.in_ok-write_order.ensures.later, c.loop-other.invariant.later);
}
