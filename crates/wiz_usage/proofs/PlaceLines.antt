-- The line of a place is one of its text.
use Rattle.std.proofs.Common.{◌≡◌, ◌≢◌, ◌+◌, ◌==◌, if◌then◌else◌, ℕ, suc, zero, Bool, true, false, List, [], ◌∷◌, count_by, take, ap, inl, inr, refl, arith}
use Rattle.std.proofs.lemmas.Bool.{eqb-true, eqb-false}
use Rattle.std.proofs.lemmas.List.Elements.{All-cons, All-nil}
use Rattle.std.proofs.lemmas.List.Sums.{sum_by-cons}
use Rattle.wiz_usage.specs.Marks.{IsLineOf}
use Rattle.wiz_usage.proofs.LineLaws.{same_line}

-- a byte more before a text
longer : (byte : ℕ) (text line : List ℕ) (number : ℕ) → byte ≢ 10 → IsLineOf text (suc number) line → (found : List ℕ) × IsLineOf (byte ∷ text) (suc number) found
longer byte text line zero other (plain, inl all) = (byte ∷ line, (All-cons (λ b. b ≢ 10) byte line other plain, inl (ap (λ t. byte ∷ t) all)))
longer byte text line zero other (plain, inr (rest, is)) = (byte ∷ line, (All-cons (λ b. b ≢ 10) byte line other plain, inr (rest, ap (λ t. byte ∷ t) is)))
longer byte text line (suc number) other (first, rest, plain, is, of) =
    (line, (byte ∷ first, rest, All-cons (λ b. b ≢ 10) byte first other plain, ap (λ t. byte ∷ t) is, of))

first_line : (byte : ℕ) (text : List ℕ) (newline : Bool) → (byte == 10) ≡ newline → ((line : List ℕ) × IsLineOf text 1 line) → (line : List ℕ) × IsLineOf (byte ∷ text) 1 line
first_line byte text true is (line, of) = ([], (All-nil (λ b. b ≢ 10), inr (text, ap (λ b. b ∷ text) (eqb-true byte 10 is))))
first_line byte text false is (line, of) = longer byte text line 0 (eqb-false byte 10 is) of

line_behind : (byte : ℕ) (text : List ℕ) (count number : ℕ) (newline : Bool) → (byte == 10) ≡ newline → number ≡ (if newline then 1 else 0) + count
    → ((line : List ℕ) × IsLineOf text (suc count) line) → (line : List ℕ) × IsLineOf (byte ∷ text) (suc number) line
line_behind byte text count number true is e (line, of) =
    let behind : IsLineOf (byte ∷ text) (suc (suc count)) line = ([], text, All-nil (λ b. b ≢ 10), ap (λ b. b ∷ text) (eqb-true byte 10 is), of) in
    (line, same_line (byte ∷ text) (byte ∷ text) (suc (suc count)) (suc number) line refl (omega (arith, e)) behind)
line_behind byte text count number false is e (line, of) =
    let found = longer byte text line count (eqb-false byte 10 is) of in
    (found.0, same_line (byte ∷ text) (byte ∷ text) (suc count) (suc number) found.0 refl (omega (arith, e)) found.1)

pub line_of_place : (text : List ℕ) (place : ℕ) → (line : List ℕ) × IsLineOf text (suc (count_by (λ byte. byte == 10) (take place text))) line
line_of_place [] zero = ([], (All-nil (λ b. b ≢ 10), inl refl))
line_of_place [] (suc place) = ([], (All-nil (λ b. b ≢ 10), inl refl))
line_of_place (byte ∷ text) zero = first_line byte text (byte == 10) refl (line_of_place text zero)
line_of_place (byte ∷ text) (suc place) =
    line_behind byte text (count_by (λ b. b == 10) (take place text)) (count_by (λ b. b == 10) (byte ∷ take place text)) (byte == 10) refl
    (sum_by-cons (λ b. if b == 10 then 1 else 0) byte (take place text)) (line_of_place text place)
