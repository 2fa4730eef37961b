use Rattle.std.proofs.Common.{◌≡◌, length, arith, sym, ◌∙◌, refl}
use Rattle.std.proofs.lemmas.Bool.{eqb-true, eqb-false, eq-eqb, ne_eqb}
use Rattle.wiz_base.proofs.ReadingLemmas.{not_empty, not_other, one_digit, AllDigits-all, is_decimal_text}
use Rattle.wiz_base.proofs.number.is_decimal.Goals as goal
use Rattle.wiz_base.proofs.number.is_decimal.Goals.{then-is_empty-via-then-is_empty, then-is_empty-via-else-is_empty+then-digits_end-text}

pub returns-then-is_empty : goal.returns-then-is_empty
returns-then-is_empty c = (
  λ t. cc,
  λ (value, e). absurd (elim c.then-is_empty.branch [
    | then-is_empty-via-then-is_empty w ↦ not_empty c.args.text.now value (eqb-true _ _ (sym c.is_empty.ensures ∙ w.if-is_empty.true)) e
    | then-is_empty-via-else-is_empty+then-digits_end-text w ↦
        not_other c.args.text.now value w.digits_end.result w.if-digits_end-text.true (w.digits_end.ensures.end w.if-digits_end-text.true) e
  ]),
)

pub returns-then-text-ne48 : goal.returns-then-text-ne48
returns-then-text-ne48 c =
    let none : length c.args.text.now ≡ 0 → ⊥ = eqb-false _ _ (sym c.is_empty.ensures ∙ c.if-is_empty.false) in (
      λ t. is_decimal_text c.args.text.now
          (AllDigits-all c.args.text.now c.digits_end.result c.if-digits_end-text.false c.digits_end.ensures.digits)
          (omega arith) (λ e. absurd (c.if-text-ne48.true e)),
      λ decimal. rw (ne_eqb _ 48 c.if-text-ne48.true) refl,
    )

pub returns-else-text-ne48 : goal.returns-else-text-ne48
returns-else-text-ne48 c =
    let none : length c.args.text.now ≡ 0 → ⊥ = eqb-false _ _ (sym c.is_empty.ensures ∙ c.if-is_empty.false) in (
      λ one. is_decimal_text c.args.text.now
          (AllDigits-all c.args.text.now c.digits_end.result c.if-digits_end-text.false c.digits_end.ensures.digits)
          (omega arith) (λ e. eqb-true (length c.args.text.now) 1 one),
      λ (value, e). eq-eqb (length c.args.text.now) 1 (one_digit c.args.text.now value c.if-text-ne48.false (omega arith) e),
    )
