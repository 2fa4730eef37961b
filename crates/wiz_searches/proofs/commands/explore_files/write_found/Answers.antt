use Rattle.std.proofs.Common.{◌∙◌, arith, get_or}
use Rattle.std.proofs.lemmas.Option.{slice_get-get_or}
use Rattle.std.proofs.lemmas.Result.{err_from_is_err_and}
use Rattle.wiz_searches.specs.Explorations.{found_turns}
use Rattle.wiz_searches.proofs.SearchFiles.{found_at, found_below, one_stopped, one_written}
use Rattle.wiz_searches.proofs.commands.explore_files.write_found.Goals as goal

pub returns-in_err-write_turns-clause-stopped : goal.returns-in_err-write_turns-clause-stopped
returns-in_err-write_turns-clause-stopped g c =
    let p = err_from_is_err_and c.from_residual.result c.from_residual.ensures.1 in
    rw (p.1, p.2)
    (one_stopped c.args.prefix.now (found_turns c.args.listed.now) c.loop-number.number (get_or c.args.listed.now c.loop-number.number c.index-listed-number.result).turns (g.S.Store.observed c.args.store.now) (g.S.Store.observed c.loop-number.store)
    (g.S.Store.observed c.write_turns.new.store) c.in_err-write_turns.field-0.0 (found_below c.args.listed.now c.loop-number.number c.loop-number-test.true)
    (found_at c.args.listed.now c.loop-number.number (get_or c.args.listed.now c.loop-number.number c.index-listed-number.result) (slice_get-get_or c.args.listed.now c.loop-number.number c.index-listed-number.result c.loop-number-test.true))
    c.loop-number.invariant.written (rw c.as_slice.ensures at c.in_err-write_turns.ensures.stopped) c.loop-number.invariant.later)

pub loop-number-preserved : goal.loop-number-preserved
loop-number-preserved g c = record {
  written =
      one_written c.args.prefix.now (found_turns c.args.listed.now) c.loop-number.number (get_or c.args.listed.now c.loop-number.number c.index-listed-number.result).turns (g.S.Store.observed c.args.store.now).files
      (g.S.Store.observed c.loop-number.store).files (g.S.Store.observed c.write_turns.new.store).files (found_below c.args.listed.now c.loop-number.number c.loop-number-test.true)
      (found_at c.args.listed.now c.loop-number.number (get_or c.args.listed.now c.loop-number.number c.index-listed-number.result) (slice_get-get_or c.args.listed.now c.loop-number.number c.index-listed-number.result c.loop-number-test.true))
      c.loop-number.invariant.written (rw c.as_slice.ensures at c.in_ok-write_turns.ensures.ok);
  reads = c.in_ok-write_turns.ensures.reads ∙ c.loop-number.invariant.reads;
  later = omega (arith, c.in_ok-write_turns.ensures.later, c.loop-number.invariant.later);
}
