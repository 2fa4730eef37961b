use Rattle.std.proofs.Common.{◌∙◌, sym, arith}
use Rattle.wiz_base.proofs.DecimalLaws.{decimal_text_injective}
use Rattle.wiz_words.proofs.FormLemmas.{some_is}
use Rattle.wiz_words.proofs.values.number_in.Goals as goal

pub returns-then-value-least : goal.returns-then-value-least
returns-then-value-least c = λ value is.
    let text = some_is _ _ (c.in_ok-text.ensures ∙ is.spelled) in
    let same = decimal_text_injective c.in_ok-value.value value (sym c.in_ok-value.ensures.0 ∙ (c.as_bytes.ensures.value ∙ text)) in
    omega (arith, same, is.from, c.if-value-least.true)
