use Rattle.wiz_base.proofs.ReadingLemmas.{AllDigits-decimal, reads_decimal}
use Rattle.wiz_base.proofs.number.decimal.Goals as goal

pub value_up_to-requires : goal.value_up_to-requires
value_up_to-requires c = AllDigits-decimal c.args.text.now (c.is_decimal.ensures.0 c.if-not-is_decimal.false)

pub returns : goal.returns
returns c = reads_decimal c.args.text.now c.args.most c.value_up_to.result (c.is_decimal.ensures.0 c.if-not-is_decimal.false) c.value_up_to.ensures
