use Rattle.std.proofs.Common.{false, inr, sym, ap, ◌∙◌, ◌++◌, ◌∷◌, [], subst}
use Rattle.c_lex.specs.Readings.{ReadsTokens, FirstFault, skip, lexeme, bad, token_at, with_token}
use Rattle.c_lex.proofs.Laws.{after, after_one, fault_one, one_reading, lexeme_inside, read_all}
use Rattle.c_lex.proofs.SliceLaws.{tokens_are_slices}
use Rattle.c_lex.proofs.lexer.tokens.Goals as goal

pub loop-at-preserved-in-Skip : goal.loop-at-preserved-in-Skip
loop-at-preserved-in-Skip c = record {
  inside = c.in-Skip.ensures.within.1;
  onward = λ reading behind. c.loop-at.invariant.onward reading (skip c.in-Skip.ensures.stands behind);
}

pub loop-at-preserved : goal.loop-at-preserved
loop-at-preserved c =
    let before = c.loop-at.invariant in
    let one = token_at c.in-Lexeme.kind c.loop-at.at c.in-Lexeme.end in
    let pushed = c.in_ok-push-in-Lexeme.ensures.ok ∙ ap (λ token. c.loop-at.found ++ token ∷ []) c.token_at.ensures in
    record {
      inside = lexeme_inside c.args.text.now c.loop-at.on_define c.loop-at.at c.in-Lexeme.kind c.in-Lexeme.end before.inside c.in-Lexeme.ensures.within;
      onward = λ reading behind.
          let here = lexeme c.in-Lexeme.ensures.stands (subst (λ define. ReadsTokens c.args.text.now define c.in-Lexeme.end reading) c.stays_on_define-on_define.ensures behind) in
          subst (ReadsTokens c.args.text.now false 0)
          (sym (after_one c.loop-at.found one reading) ∙ ap (λ found. after found reading) (sym pushed))
          (before.onward (with_token one reading) here);
    }

pub returns-in-Bad-clause-fault : goal.returns-in-Bad-clause-fault
returns-in-Bad-clause-fault c =
    inr (
      c.in-Bad.place,
      subst (λ why. ReadsTokens c.args.text.now false 0 (FirstFault c.in-Bad.place why)) (sym c.fault_at.ensures.why) (c.loop-at.invariant.onward _ (bad c.in-Bad.ensures.stands)),
      c.fault_at.ensures.place,
    )

pub returns-in-Bad-clause-only_list : goal.returns-in-Bad-clause-only_list
returns-in-Bad-clause-only_list c = λ list tokens.
    let e = one_reading c.args.text.now (c.loop-at.invariant.onward _ (bad c.in-Bad.ensures.stands)) tokens in
    cc

pub returns-in-Bad-clause-only_fault : goal.returns-in-Bad-clause-only_fault
returns-in-Bad-clause-only_fault c = λ first is.
    inr (fault_one c.args.text.now c.fault_at.result first (
      c.in-Bad.place,
      subst (λ why. ReadsTokens c.args.text.now false 0 (FirstFault c.in-Bad.place why)) (sym c.fault_at.ensures.why) (c.loop-at.invariant.onward _ (bad c.in-Bad.ensures.stands)),
      c.fault_at.ensures.place,
    )
    is)

pub returns-clause-list : goal.returns-clause-list
returns-clause-list c = read_all c.args.text.now c.loop-at.on_define c.loop-at.at c.loop-at.found c.loop-at.invariant.onward c.if-on_define.false c.if-at-text.false

pub returns-clause-only_list : goal.returns-clause-only_list
returns-clause-only_list c = λ list tokens.
    let e = one_reading c.args.text.now (read_all c.args.text.now c.loop-at.on_define c.loop-at.at c.loop-at.found c.loop-at.invariant.onward c.if-on_define.false c.if-at-text.false) tokens in
    cc

pub returns-clause-only_fault : goal.returns-clause-only_fault
returns-clause-only_fault c = λ first is.
    let e = one_reading c.args.text.now (read_all c.args.text.now c.loop-at.on_define c.loop-at.at c.loop-at.found c.loop-at.invariant.onward c.if-on_define.false c.if-at-text.false) is.1 in
    cc

pub returns-clause-slices : goal.returns-clause-slices
returns-clause-slices c =
    tokens_are_slices c.args.text.now c.loop-at.found
    (read_all c.args.text.now c.loop-at.on_define c.loop-at.at c.loop-at.found c.loop-at.invariant.onward c.if-on_define.false c.if-at-text.false)
