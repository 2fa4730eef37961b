use Rattle.std.proofs.Common.{◌≡◌, ◌∙◌, arith, rules, slice_index, sym}
use Rattle.run_model.specs.Views.{view_of}
use Rattle.srr_replay.proofs.PlaceLemmas.{IsMarkAt, mark_fits_at, missing_here, there_more}
use Rattle.srr_replay.proofs.missing.missing_in_marks.Goals as goal

pub missing_in_mark-requires-clause-fits : goal.missing_in_mark-requires-clause-fits
missing_in_mark-requires-clause-fits c =
    let seen = c.args.seen.now in
    let rank = c.args.rank in
    let start_is : c.unwrap_or-start.result ≡ slice_index c.args.starts.now c.index-marks-k.result.index = search rules in
    let at : IsMarkAt c.args.starts.now c.args.marks.now c.loop-k.k c.unwrap_or-start.result c.index-marks-k.result =
    record { below = omega (arith, c.loop-k-test.true); is = sym c.index-marks-k.is; start_is = start_is } in
    (c.requires.fits.0, mark_fits_at seen.ranks c.requires.fits.0 rank (view_of seen.events rank) c.args.starts.now c.args.marks.now c.loop-k.k c.unwrap_or-start.result c.index-marks-k.result at c.requires.fits.1)

pub returns-in-Some-clause-missing : goal.returns-in-Some-clause-missing
returns-in-Some-clause-missing c =
    let seen = c.args.seen.now in
    let rank = c.args.rank in
    let start_is : c.unwrap_or-start.result ≡ slice_index c.args.starts.now c.index-marks-k.result.index = search rules in
    let at : IsMarkAt c.args.starts.now c.args.marks.now c.loop-k.k c.unwrap_or-start.result c.index-marks-k.result =
    record { below = omega (arith, c.loop-k-test.true); is = sym c.index-marks-k.is; start_is = start_is } in
    sym (missing_here seen.ranks (view_of seen.events) rank (view_of seen.events rank) c.args.starts.now c.args.marks.now c.loop-k.k c.unwrap_or-start.result c.index-marks-k.result c.in-Some.missing at c.loop-k.invariant.there (sym c.missing_in_mark.ensures ∙ c.in-Some.is))

pub loop-k-preserved : goal.loop-k-preserved
loop-k-preserved c =
    let seen = c.args.seen.now in
    let rank = c.args.rank in
    let start_is : c.unwrap_or-start.result ≡ slice_index c.args.starts.now c.index-marks-k.result.index = search rules in
    let at : IsMarkAt c.args.starts.now c.args.marks.now c.loop-k.k c.unwrap_or-start.result c.index-marks-k.result =
    record { below = omega (arith, c.loop-k-test.true); is = sym c.index-marks-k.is; start_is = start_is } in
    record {
      within = omega (arith, at.below);
      there = there_more seen.ranks (view_of seen.events) rank (view_of seen.events rank) c.args.starts.now c.args.marks.now c.loop-k.k c.unwrap_or-start.result c.index-marks-k.result at c.loop-k.invariant.there (sym c.missing_in_mark.ensures ∙ c.in_default.is);
    }
