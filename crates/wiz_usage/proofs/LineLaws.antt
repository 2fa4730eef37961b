-- A line of a text: under an equal text and number, and what is left behind its first line.
use Rattle.std.proofs.Common.{◌≡◌, ◌+◌, ◌-◌, ◌<◌, ℕ, suc, List, Option, Some, None, refl, subst, sym, arith}
use Rattle.std.specs.Borrow.{Bor}
use Rattle.std.specs.Option.{option_copied}
use Rattle.wiz_base.proofs.LineLaws.{line_and_rest, no_ended_line}
use Rattle.wiz_base.specs.Lines.{IsEndedLine}
use Rattle.wiz_usage.specs.Marks.{IsLineOf}

pub same_line : (text text' : List ℕ) (number number' : ℕ) (line : List ℕ) → text ≡ text' → number ≡ number' → IsLineOf text number line → IsLineOf text' number' line
same_line text text' number number' line same same_number is =
    subst (λ t. IsLineOf t number' line) same (subst (λ k. IsLineOf text k line) same_number is)

-- a line behind the first one is one of what is left behind the first
pub behind_first : (text first rest : List ℕ) (number : ℕ) (line : List ℕ) → IsEndedLine text (Some first) rest → IsLineOf text (suc (suc number)) line → IsLineOf rest (suc number) line
behind_first text first rest number line (plain, is) (other, others, none, same, of) =
    subst (λ t. IsLineOf t (suc number) line) (line_and_rest other first others rest none plain (rw same at is)).1 of

-- a text without a newline has no line behind the first one
pub no_second : (text rest : List ℕ) (number : ℕ) (line : List ℕ) → IsEndedLine text None rest → IsLineOf text (suc (suc number)) line → ⊥
no_second text rest number line (plain, is) (other, others, none, same, of) = no_ended_line other others text plain same

-- the lines of what is left are those of the text from one on
abbrev pub AreLinesFrom : List ℕ → ℕ → List ℕ → ℕ → Type 0
AreLinesFrom text number left first =
    ((line : List ℕ) → IsLineOf left first line → IsLineOf text number line) × ((line : List ℕ) → IsLineOf text number line → IsLineOf left first line)

pub all_lines : (text cursor : List ℕ) (number : ℕ) → (number ≡ 0 → ⊥) → cursor ≡ text → AreLinesFrom text number cursor (suc (number - 1))
all_lines text cursor number some same =
    let whole : suc (number - 1) ≡ number = omega (arith, some) in
    (λ line. same_line cursor text (suc (number - 1)) number line same whole, λ line. same_line text cursor number (suc (number - 1)) line (sym same) (sym whole))

pub next_lines : (text cursor after : List ℕ) (number counter : ℕ) (read : Option (Bor (List ℕ))) (first : Bor (List ℕ)) → counter < number → read ≡ Some first
    → IsEndedLine cursor (option_copied read) after → AreLinesFrom text number cursor (suc (number - counter)) → AreLinesFrom text number after (suc (number - (counter + 1)))
next_lines text cursor after number counter read first below was ended all =
    let ended : IsEndedLine cursor (Some first.now) after = rw was at ended in
    let count : suc (suc (number - (counter + 1))) ≡ suc (number - counter) = omega (arith, below) in (
      λ line of. all.0 line (same_line cursor cursor _ _ line refl count (first.now, after, ended.0, ended.1, of)),
      λ line of. behind_first cursor first.now after (number - (counter + 1)) line ended (same_line cursor cursor _ _ line refl (sym count) (all.1 line of)),
    )

pub no_line_left : (text cursor after : List ℕ) (number counter : ℕ) (read : Option (Bor (List ℕ))) → counter < number → read ≡ None
    → IsEndedLine cursor (option_copied read) after → AreLinesFrom text number cursor (suc (number - counter)) → (line : List ℕ) → IsLineOf text number line → ⊥
no_line_left text cursor after number counter read below was ended all = λ line of.
    let ended : IsEndedLine cursor None after = rw was at ended in
    let count : suc (number - counter) ≡ suc (suc (number - (counter + 1))) = omega (arith, below) in
    no_second cursor after (number - (counter + 1)) line ended (same_line cursor cursor _ _ line refl count (all.1 line of))
