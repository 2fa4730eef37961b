use Rattle.std.proofs.Common.{arith}
use Rattle.std.proofs.lemmas.Str.Parse.{digit_at}
use Rattle.wiz_base.proofs.ReadingLemmas.{digits_value-step, digits_value-past}
use Rattle.wiz_base.proofs.number.value_up_to.Goals as goal

pub returns-in_err-tens : goal.returns-in_err-tens
returns-in_err-tens c =
    let past = digits_value-past c.args.digits.now c.loop-digit.digit-index c.requires c.loop-digit-test.true in
    rw c.from_residual.ensures (λ within. c.in_err-tens.ensures (omega arith))

pub overflow_sub-digit : goal.overflow_sub-digit
overflow_sub-digit c = (digit_at c.args.digits.now c.loop-digit.digit-index c.requires c.loop-digit-test.true).0

pub returns-in_err-value : goal.returns-in_err-value
returns-in_err-value c =
    let past = digits_value-past c.args.digits.now c.loop-digit.digit-index c.requires c.loop-digit-test.true in
    let tens = c.in_ok-tens.ensures.1 in
    rw c.from_residual-in_err-value.ensures (λ within. c.in_err-value.ensures (omega arith))

pub loop-digit-preserved : goal.loop-digit-preserved
loop-digit-preserved c =
    let step = digits_value-step c.args.digits.now c.loop-digit.digit-index c.requires c.loop-digit-test.true in
    let tens = c.in_ok-tens.ensures.1 in
    let sum = c.in_ok-value.ensures.1 in
    omega arith
