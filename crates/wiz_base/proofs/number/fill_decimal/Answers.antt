use Rattle.std.proofs.Common.{◌+◌, ◌%◌, length, arith}
use Rattle.std.proofs.lemmas.List.{length-set}
use Rattle.wiz_base.specs.Decimals.{decimal_text}
use Rattle.wiz_base.proofs.FillLemmas.{first_fits, all_written, above_one, digit_fits, digit_written, last_written}
use Rattle.wiz_base.proofs.number.fill_decimal.Goals as goal

pub loop-left-init : goal.loop-left-init
loop-left-init c = record {
  within = omega arith;
  fits = first_fits c.args.value (length c.args.room.now) c.ranges.value.fits c.requires;
  written = all_written c.args.value c.args.room.now c.requires;
}

pub overflow_sub-at-in-loop-left : goal.overflow_sub-at-in-loop-left
overflow_sub-at-in-loop-left c = above_one c.loop-left.left c.loop-left.at c.loop-left.invariant.fits

pub loop-left-preserved : goal.loop-left-preserved
loop-left-preserved c = record {
  within = omega (arith, length-set c.loop-left.room c.loop-left.at (48 + c.loop-left.left % 10));
  fits = digit_fits c.loop-left.left c.loop-left.at c.loop-left-test.true c.loop-left.invariant.fits;
  written = digit_written c.loop-left.left c.loop-left.at c.loop-left.room (decimal_text c.args.value) c.loop-left-test.true (above_one c.loop-left.left c.loop-left.at c.loop-left.invariant.fits) c.loop-left.invariant.within c.loop-left.invariant.written;
}

pub returns-clause-from : goal.returns-clause-from
returns-clause-from c = above_one c.loop-left.left c.loop-left.at c.loop-left.invariant.fits

pub returns-clause-text : goal.returns-clause-text
returns-clause-text c = last_written c.loop-left.left c.loop-left.at c.loop-left.room (decimal_text c.args.value) c.loop-left-test.false c.loop-left.invariant.within c.loop-left.invariant.written
