use Rattle.std.proofs.Common.{◌<◌, length, arith}
use Rattle.std.specs.Option.{ok_or}
use Rattle.wiz_base.specs.declared.fault.NumberFault.TheVariants.{TooLarge}
use Rattle.wiz_base.specs.Readings.{IsReading}
use Rattle.wiz_base.proofs.ReadingLemmas.{only_zero, AreDigits-all, AllDigits-rest, reads_signed}
use Rattle.wiz_base.proofs.number.number_i64.Goals as goal

pub signed_value-requires : goal.signed_value-requires
signed_value-requires c =
    AllDigits-rest c.args.text.now c.digits_begin-begin.result
    (AreDigits-all c.args.text.now c.digits_begin-begin.result c.digits_end-at.result c.if-at-text.false c.digits_end-at.ensures.digits)

pub returns : goal.returns
returns c =
    let some : c.digits_begin-begin.result < length c.args.text.now =
    omega (arith, c.digits_end-at.ensures.from, c.digits_end-at.ensures.within) in
    let reading : IsReading c.args.text.now (ok_or c.signed_value.result TooLarge) =
    reads_signed c.args.text.now c.digits_begin-begin.result c.signed_value.result c.digits_begin-begin.ensures
    (AreDigits-all c.args.text.now c.digits_begin-begin.result c.digits_end-at.result c.if-at-text.false c.digits_end-at.ensures.digits)
    some (only_zero _ _ (omega arith) c.else-text-begin-eq48.either) c.signed_value.ensures in
    rw c.ok_or.ensures.value reading
