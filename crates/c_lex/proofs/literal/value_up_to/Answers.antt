use Rattle.std.proofs.Common.{◌≡◌, ◌+◌, ◌*◌, ◌∙◌, ap, sym, take, arith}
use Rattle.std.specs.Str.Parse.{digits_value}
use Rattle.std.proofs.lemmas.Int.Digits.{digits_more, digits_value_more}
use Rattle.std.proofs.lemmas.Str.Parse.{digits_value-take-le}
use Rattle.c_lex.proofs.LiteralLaws.{digit_below}
use Rattle.c_lex.proofs.literal.value_up_to.Goals as goal

pub returns-in_err-digit : goal.returns-in_err-digit
returns-in_err-digit c =
    rw c.from_residual.ensures (λ all. c.in_err-digit.ensures.value (digit_below c.args.base c.args.digits.now c.loop-byte.byte-index all.0 c.loop-byte-test.true))

pub returns-then-value-gt-GREATEST_LITERAL : goal.returns-then-value-gt-GREATEST_LITERAL
returns-then-value-gt-GREATEST_LITERAL c = λ all.
    let value = c.loop-byte.invariant.value in
    let digit = c.in_ok-digit.ensures.value.1 in
    let more = digits_value_more c.args.base c.args.digits.now c.loop-byte.byte-index c.loop-byte-test.true in
    let past = digits_value-take-le c.args.base c.args.digits.now (c.loop-byte.byte-index + 1) (omega arith) in
    let fits = all.1 in
    let large = c.if-value-gt-GREATEST_LITERAL.true in
    let so_far : c.loop-byte.value * c.args.base + c.in_ok-digit.digit ≡ digits_value c.args.base (take (c.loop-byte.byte-index + 1) c.args.digits.now) = ap (λ v. v * c.args.base + c.in_ok-digit.digit) value ∙ ap (λ d. digits_value c.args.base (take c.loop-byte.byte-index c.args.digits.now) * c.args.base + d) digit ∙ sym more in
    omega arith

pub loop-byte-preserved : goal.loop-byte-preserved
loop-byte-preserved c =
    let value = c.loop-byte.invariant.value in
    let digit = c.in_ok-digit.ensures.value.1 in
    let more = digits_value_more c.args.base c.args.digits.now c.loop-byte.byte-index c.loop-byte-test.true in
    let small = c.if-value-gt-GREATEST_LITERAL.false in
    record {
      digits = digits_more c.args.base c.args.digits.now c.loop-byte.byte-index c.loop-byte-test.true c.loop-byte.invariant.digits c.in_ok-digit.ensures.value.0;
      value = ap (λ v. v * c.args.base + c.in_ok-digit.digit) value ∙ ap (λ d. digits_value c.args.base (take c.loop-byte.byte-index c.args.digits.now) * c.args.base + d) digit ∙ sym more;
      small = omega arith;
    }
