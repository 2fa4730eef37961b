use Rattle.std.proofs.Common.{◌∙◌, refl, sym}
use Rattle.c_lex.proofs.LiteralLaws.{number_from}
use Rattle.c_lex.proofs.literal.literal_value.Goals as goal

pub returns-in_err-value : goal.returns-in_err-value
returns-in_err-value c = c.from_residual.ensures ∙ sym c.in_err-value.was ∙
    number_from c.args.word.now _ c.prefix_length-prefix.result c.base.result c.value_up_to.result c.prefix_length-prefix.ensures.value c.base.ensures refl
    (sym c.is_empty.ensures ∙ c.if-is_empty.false) c.value_up_to.ensures

pub returns : goal.returns
returns c = sym c.in_ok-value.was ∙
    number_from c.args.word.now _ c.prefix_length-prefix.result c.base.result c.value_up_to.result c.prefix_length-prefix.ensures.value c.base.ensures refl
    (sym c.is_empty.ensures ∙ c.if-is_empty.false) c.value_up_to.ensures
