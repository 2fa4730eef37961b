use Rattle.std.proofs.Common.{◌≡◌, ◌≢◌, ℕ, List, true, false, refl, sym, ◌∙◌}
use Rattle.std.specs.Prelude.{codes}
use Rattle.std.specs.Str.{bytes_eq}
use Rattle.std.proofs.lemmas.Slice.Eq.{bytes_eq-Decides}
use Rattle.c_lex.specs.Steps.{include, define, other_directive}
use Rattle.c_lex.proofs.word.directive.Goals as goal

is_word : (other word : List ℕ) → bytes_eq word other ≡ true → other ≡ word
is_word other word test = sym ((bytes_eq-Decides word other).0 test)

is_no_word : (other word : List ℕ) → bytes_eq word other ≡ false → word ≢ other
is_no_word other word test same = let passes = (bytes_eq-Decides word other).1 same in cc

pub returns-then-is_same-clause-stands : goal.returns-then-is_same-clause-stands
returns-then-is_same-clause-stands c =
    λ on_define. include
    (record {
      from = c.run_end-from.result;
      spaces = c.run_end-from.ensures;
      run = c.run_end-end.ensures;
      is = is_word (codes "include") _ (sym c.is_same.ensures ∙ c.if-is_same.true);
    })
    c.run_end.ensures

pub returns-then-is_same-2-clause-stands : goal.returns-then-is_same-2-clause-stands
returns-then-is_same-2-clause-stands c =
    λ on_define. define (record {
      from = c.run_end-from.result;
      spaces = c.run_end-from.ensures;
      run = c.run_end-end.ensures;
      is = is_word (codes "define") _ (sym c.is_same-2.ensures ∙ c.if-is_same-2.true);
    })

pub returns-clause-stands : goal.returns-clause-stands
returns-clause-stands c =
    λ on_define. other_directive
    (record { from = c.run_end-from.result; spaces = c.run_end-from.ensures; run = c.run_end-end.ensures; is = refl })
    (is_no_word (codes "include") _ (sym c.is_same.ensures ∙ c.if-is_same.false))
    (is_no_word (codes "define") _ (sym c.is_same-2.ensures ∙ c.if-is_same-2.false))
