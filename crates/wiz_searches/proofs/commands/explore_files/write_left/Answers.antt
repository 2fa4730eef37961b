use Rattle.std.proofs.Common.{◌∙◌, Some, ap, arith, sym}
use Rattle.std.proofs.lemmas.Option.{slice_get-get_or}
use Rattle.std.proofs.lemmas.Result.{err_from_is_err_and}
use Rattle.wiz_searches.proofs.SearchFiles.{one_stopped, one_written}
use Rattle.wiz_searches.proofs.commands.explore_files.write_left.Goals as goal

pub returns-in_err-write_turns-clause-stopped : goal.returns-in_err-write_turns-clause-stopped
returns-in_err-write_turns-clause-stopped g c =
    let p = err_from_is_err_and c.from_residual.result c.from_residual.ensures.1 in
    rw (p.1, p.2)
    (one_stopped c.args.prefix.now c.args.left.now c.loop-number.number c.index-left-number.result (g.S.Store.observed c.args.store.now) (g.S.Store.observed c.loop-number.store)
    (g.S.Store.observed c.write_turns.new.store) c.in_err-write_turns.field-0.0 (omega (arith, c.loop-number-test.true))
    (slice_get-get_or c.args.left.now c.loop-number.number c.index-left-number.result c.loop-number-test.true ∙ ap (λ turns. Some turns) (sym c.index-left-number.is))
    c.loop-number.invariant.written (rw c.as_slice.ensures at c.in_err-write_turns.ensures.stopped) c.loop-number.invariant.later)

pub loop-number-preserved : goal.loop-number-preserved
loop-number-preserved g c = record {
  written =
      one_written c.args.prefix.now c.args.left.now c.loop-number.number c.index-left-number.result (g.S.Store.observed c.args.store.now).files
      (g.S.Store.observed c.loop-number.store).files (g.S.Store.observed c.write_turns.new.store).files (omega (arith, c.loop-number-test.true))
      (slice_get-get_or c.args.left.now c.loop-number.number c.index-left-number.result c.loop-number-test.true ∙ ap (λ turns. Some turns) (sym c.index-left-number.is))
      c.loop-number.invariant.written (rw c.as_slice.ensures at c.in_ok-write_turns.ensures.ok);
  reads = c.in_ok-write_turns.ensures.reads ∙ c.loop-number.invariant.reads;
  later = omega (arith, c.in_ok-write_turns.ensures.later, c.loop-number.invariant.later);
}
