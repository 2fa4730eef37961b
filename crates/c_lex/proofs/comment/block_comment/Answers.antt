use Rattle.std.proofs.Common.{◌≡◌, subst, arith}
use Rattle.c_lex.specs.Bytes.{IsStretch}
use Rattle.c_lex.specs.Steps.{comment, endless_comment, split_comment}
use Rattle.c_lex.specs.declared.bytes.ByteClass.TheVariants.{InLine}
use Rattle.c_lex.proofs.comment.block_comment.Goals as goal
use Rattle.c_lex.proofs.comment.block_comment.Goals.{else-on_define-via-then-on_define+else-run_end-close, else-on_define-via-else-on_define}

pub returns-in_default-clause-stands : goal.returns-in_default-clause-stands
returns-in_default-clause-stands c = endless_comment c.in_default.ensures

pub returns-then-run_end-close-clause-stands : goal.returns-then-run_end-close-clause-stands
returns-then-run_end-close-clause-stands c =
    split_comment c.if-on_define.true (record {
      close = c.in-Some.close;
      closed = c.in-Some.ensures;
      newline = c.run_end.result;
      run = c.run_end.ensures;
      before = c.if-run_end-close.true;
    })

pub returns-clause-stands : goal.returns-clause-stands
returns-clause-stands c = comment (record {
  closed = c.in-Some.ensures;
  on_line = λ define. elim c.else-on_define.branch [
    | else-on_define-via-then-on_define+else-run_end-close w ↦
        let high = w.run_end.ensures.high in
        let past = w.if-run_end-close.false in
        let e : w.run_end.result ≡ c.in-Some.close = omega arith in
        subst (λ end. IsStretch InLine c.args.text.now c.args.at c.in-Some.close end) e w.run_end.ensures
    | else-on_define-via-else-on_define w ↦ absurd (let no = w.if-on_define.false in cc)
  ];
})
