use Rattle.std.proofs.Common.{◌≡◌, ◌+◌, ◌<◌, sym, ◌∙◌, subst, arith}
use Rattle.c_lex.specs.Texts.{Inside, ends, goes_on}
use Rattle.c_lex.proofs.lexeme.inside_end.Goals as goal

pub loop-more-preserved : goal.loop-more-preserved
loop-more-preserved c =
    let before = c.loop-more.invariant in
    let low = before.low in
    record {
      low = omega arith;
      high = c.character_length-more-in-loop-more.ensures.within;
      more = c.character_length-more-in-loop-more.ensures.value;
      onward = λ end behind. before.onward end (goes_on
          (subst (λ more. 0 < more) before.more c.loop-more-test.true)
          (subst (λ more. Inside c.args.text.now (c.loop-more.at + more) end) before.more behind));
    }

pub returns-clause-inside : goal.returns-clause-inside
returns-clause-inside c =
    let before = c.loop-more.invariant in
    let none = c.loop-more-test.false in
    let e : c.loop-more.more ≡ 0 = omega arith in
    before.onward _ (ends (sym before.more ∙ e))
