use Rattle.std.proofs.Common.{◌≡◌, ◌+◌, sym, ◌∙◌, subst, arith}
use Rattle.c_lex.specs.Bytes.{IsStretch}
use Rattle.c_lex.specs.Steps.{quoted, bad_inside, open_text}
use Rattle.c_lex.specs.declared.bytes.ByteClass.TheVariants.{Printable}
use Rattle.c_lex.proofs.lexeme.quote.Goals as goal

pub returns-then-byte_at-ne34-clause-stands : goal.returns-then-byte_at-ne34-clause-stands
returns-then-byte_at-ne34-clause-stands c =
    λ on_define. open_text (record {
      stop = c.inside_end-close.result;
      inside = c.inside_end-close.ensures.inside;
      open_there = λ e. c.if-byte_at-ne34.true (c.byte_at.ensures ∙ e);
    })

pub returns-then-place-close-clause-stands : goal.returns-then-place-close-clause-stands
returns-then-place-close-clause-stands c =
    λ on_define. bad_inside (record {
      close = c.inside_end-close.result;
      inside = c.inside_end-close.ensures.inside;
      closed = sym c.byte_at.ensures ∙ c.if-byte_at-ne34.false;
      printable = c.run_end-place.ensures;
      before = c.if-place-close.true;
    })

pub returns-else-place-close-clause-stands : goal.returns-else-place-close-clause-stands
returns-else-place-close-clause-stands c =
    let high = c.run_end-place.ensures.high in
    let past = c.if-place-close.false in
    let e : c.run_end-place.result ≡ c.inside_end-close.result = omega arith in
    λ on_define. quoted (record {
      inside = c.inside_end-close.ensures.inside;
      closed = sym c.byte_at.ensures ∙ c.if-byte_at-ne34.false;
      printable = subst (λ end. IsStretch Printable c.args.text.now (c.args.at + 1) c.inside_end-close.result end) e c.run_end-place.ensures;
    })
