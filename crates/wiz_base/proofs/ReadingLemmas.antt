-- What the readers of numbers rest on.
use Rattle.std.proofs.Common.{◌≡◌, ◌≢◌, ℕ, zero, suc, Option, Some, None, ◌+◌, ◌*◌, ◌-◌, ◌<◌, ◌≤◌, ◌⊎◌, inl, inr, List, [], ◌∷◌, length, get_or, take, drop, refl, sym, ◌∙◌, ap, arith}
use Rattle.std.specs.Prelude.{◌==◌, slice_index, ok_or, SomeIff, FitsSigned, ℤ, pos, neg_ℤ}
use Rattle.std.specs.Int.{w64}
use Rattle.std.proofs.lemmas.List.{get_or-drop, length-drop}
use Rattle.std.proofs.Math.Seq.{take-length}
use Rattle.std.proofs.lemmas.Bool.{cases_Bool, cases_eq, cases_lt, eqb-true}
use Rattle.std.specs.Str.Parse.{AllDigits, digits_value}
use Rattle.std.specs.Char.{digit_value, IsAsciiDigit}
use Rattle.std.proofs.lemmas.Int.Digits.{digits_value_more}
use Rattle.std.proofs.lemmas.Str.Parse.{digits_value-take-le, digit_at, numerals_by_value, tells_by_index}
use Rattle.std.proofs.lemmas.Str.{digit_value_digit}
use Rattle.wiz_base.specs.Decimals.{decimal_text, number_text}
use Rattle.wiz_base.specs.declared.fault.NumberFault.TheVariants.{TooLarge}
use Rattle.wiz_base.proofs.DecimalLaws.{decimal_text-digit, decimal_text-is, decimal_text-bytes, decimal_text-nonempty, decimal_text-digits_value}
use Rattle.wiz_base.specs.Readings.{digits_begin, with_sign, AreDigits, IsReading, IsDecimal, IsDecimalUpTo}

-- one more digit
pub digits_value-step : (ds : List ℕ) (i : ℕ) → AllDigits 10 ds → i < length ds → digits_value 10 (take (i + 1) ds) ≡ digits_value 10 (take i ds) * 10 + (get_or ds i 0 - 48)
digits_value-step ds i digits below =
    let range : IsAsciiDigit (get_or ds i 0) = digit_at ds i digits below in
    let byte : digit_value (get_or ds i 0) + 48 ≡ get_or ds i 0 = digit_value_digit (get_or ds i 0) range in
    digits_value_more 10 ds i below ∙ omega arith

-- digits so far make no more than all of them
pub digits_value-past : (ds : List ℕ) (i : ℕ) → AllDigits 10 ds → i < length ds → digits_value 10 (take i ds) * 10 + (get_or ds i 0 - 48) ≤ digits_value 10 ds
digits_value-past ds i digits below =
    rw (← digits_value-step ds i digits below) (digits_value-take-le 10 ds (i + 1) (omega arith))

-- bytes that are digits by their places are digits
AllDigits-drop : (text : List ℕ) (begin : ℕ) → AreDigits text begin (length text) → AllDigits 10 (drop begin text)
AllDigits-drop text begin digits =
    (numerals_by_value _ tells_by_index).to (drop begin text) (λ i below.
    rw (get_or-drop begin text i 0) (digits (begin + i) (omega arith) (omega (arith, length-drop begin text))))

-- the slice from there on
rest_is : (text : List ℕ) (begin : ℕ) → take (length text - begin) (drop begin text) ≡ drop begin text
rest_is text begin = rw (← length-drop begin text) (take-length (drop begin text))

pub AllDigits-rest : (text : List ℕ) (begin : ℕ) → AreDigits text begin (length text) → AllDigits 10 (take (length text - begin) (drop begin text))
AllDigits-rest text begin digits = rw (rest_is text begin) (AllDigits-drop text begin digits)

pub AreDigits-all : (text : List ℕ) (begin end : ℕ) → length text ≤ end → AreDigits text begin end → AreDigits text begin (length text)
AreDigits-all text begin end whole digits = λ k low high. digits k low (omega arith)

pub AllDigits-all : (text : List ℕ) (end : ℕ) → length text ≤ end → AreDigits text 0 end → AllDigits 10 text
AllDigits-all text end whole digits =
    (numerals_by_value _ tells_by_index).to text (λ i below. digits i (omega arith) (omega arith))

-- no text of a number is empty, has another byte than digits, or begins with a 0 before others
pub not_empty : (text : List ℕ) (value : ℕ) → length text ≡ 0 → text ≡ decimal_text value → ⊥
not_empty text value none e = let some : length (decimal_text value) ≡ 0 = rw (← e) none in omega (arith, decimal_text-nonempty value)

pub not_other : (text : List ℕ) (value at : ℕ) → at < length text → ¬ (IsAsciiDigit (slice_index text at)) → text ≡ decimal_text value → ⊥
not_other text value at below other e =
    let below' : at < length (decimal_text value) = rw e at below in
    other (rw e (decimal_text-bytes value at 0 below'))

pub not_leading_zero : (text : List ℕ) (value : ℕ) → slice_index text 0 ≡ 48 → 1 < length text → text ≡ decimal_text value → ⊥
not_leading_zero text zero zero_first more e =
    let short : length (decimal_text 0) ≡ 1 = ap length (decimal_text-digit 0 (omega arith)) in
    let more' : 1 < length (decimal_text 0) = rw e at more in
    omega arith
not_leading_zero text (suc value) zero_first more e =
    let first : 48 < get_or (decimal_text (suc value)) 0 0 = (decimal_text-is (suc value)).first (omega arith) in
    let first' : get_or (decimal_text (suc value)) 0 0 ≡ 48 = rw e at zero_first in
    omega arith

-- so a text that begins with a 0 is that
pub one_digit : (text : List ℕ) (value : ℕ) → slice_index text 0 ≡ 48 → 0 < length text → text ≡ decimal_text value → length text ≡ 1
one_digit text value zero_first some e = elim (cases_lt 1 (length text)) [
  | inl more ↦ absurd (not_leading_zero text value zero_first more e)
  | inr less ↦ omega arith
]

-- what the code's test says of a leading 0
pub only_zero : (byte len : ℕ) → 0 < len → ((byte ≡ 48) × (len ≤ 1)) ⊎ (byte ≡ 48 → ⊥) → byte ≡ 48 → len ≡ 1
only_zero byte len some (inl (zero_first, short)) e = omega arith
only_zero byte len some (inr other) e = absurd (other e)

-- digits with no 0 before others are the text of some number
pub is_decimal_text : (text : List ℕ) → AllDigits 10 text → 0 < length text → (slice_index text 0 ≡ 48 → length text ≡ 1) → IsDecimal text
is_decimal_text text digits some lead = (digits_value 10 text, sym (decimal_text-digits_value text digits some lead))

-- the text of a number is digits
pub AllDigits-decimal : (text : List ℕ) → IsDecimal text → AllDigits 10 text
AllDigits-decimal text (value, is) = rw is (decimal_text-is value).digits

-- such a text, read up to a bound
pub reads_decimal : (text : List ℕ) (most : ℕ) (result : Option ℕ) → IsDecimal text
    → SomeIff result (digits_value 10 text ≤ most) (digits_value 10 text) → IsDecimalUpTo text most result
reads_decimal text most (Some found) (value, is) (fits, found_is) =
    let same : digits_value 10 text ≡ value = ap (digits_value 10) is ∙ (decimal_text-is value).value in
    (rw (found_is, same) is, omega arith)
reads_decimal text most None (value, is) large = λ other fits e.
    large (let same : digits_value 10 text ≡ other = ap (digits_value 10) e ∙ (decimal_text-is other).value in omega arith)

-- a number below 0
pub number_text-negative : (n : ℕ) → 0 < n → number_text (neg_ℤ (pos n)) ≡ 45 ∷ decimal_text n
number_text-negative zero some = absurd (omega arith)
number_text-negative (suc n) some = refl

-- digits that do not begin with a 0 make more than 0
above_zero : (ds : List ℕ) → 0 < length ds → decimal_text (digits_value 10 ds) ≡ ds → (get_or ds 0 0 ≢ 48) → 0 < digits_value 10 ds
above_zero ds some is lead = elim (cases_eq (digits_value 10 ds) 0) [
  | inl none ↦ let zero_is : ds ≡ 48 ∷ [] = sym is ∙ ap decimal_text none ∙ decimal_text-digit 0 (omega arith) in absurd (lead (ap (λ text. get_or text 0 0) zero_is))
  | inr large ↦ omega arith
]

-- sign and digits are the text of what they make
pub spelled : (text : List ℕ) (begin : ℕ) → begin ≡ digits_begin text → AreDigits text begin (length text) → begin < length text
    → (slice_index text begin ≡ 48 → length text ≡ 1)
    → text ≡ number_text (with_sign (begin == 1) (digits_value 10 (drop begin text)))
spelled [] begin is digits some lead = absurd (omega arith)
spelled (c ∷ cs) begin is digits some lead = elim (cases_Bool (c == 45)) [
  | inl minus ↦
      let one : begin ≡ 1 = is ∙ rw minus refl in
      let behind : AllDigits 10 (drop 1 (c ∷ cs)) = AllDigits-drop (c ∷ cs) 1 (rw one at digits) in
      let lead' : get_or cs 0 0 ≡ 48 → length cs ≡ 1 = λ e. absurd (let l : length (c ∷ cs) ≡ 1 = lead (rw one e) in omega arith) in
      let some' : 0 < length cs = omega arith in
      let text_is : decimal_text (digits_value 10 cs) ≡ cs = decimal_text-digits_value cs behind some' lead' in
      let large : 0 < digits_value 10 cs = above_zero cs some' text_is (λ e. absurd (let l : length (c ∷ cs) ≡ 1 = lead (rw one e) in omega arith)) in
      let minus' : c ≡ 45 = eqb-true c 45 minus in
      rw (one, number_text-negative (digits_value 10 cs) large, text_is, minus') refl
  | inr plus ↦
      let none : begin ≡ 0 = is ∙ rw plus refl in
      let all : AllDigits 10 (drop 0 (c ∷ cs)) = AllDigits-drop (c ∷ cs) 0 (rw none at digits) in
      let text_is : decimal_text (digits_value 10 (c ∷ cs)) ≡ c ∷ cs = decimal_text-digits_value (c ∷ cs) all (omega arith) (λ e. lead (rw none e)) in
      rw none (sym text_is)
]

pub reads_signed : (text : List ℕ) (begin : ℕ) (result : Option ℤ) → begin ≡ digits_begin text → AreDigits text begin (length text) → begin < length text
    → (slice_index text begin ≡ 48 → length text ≡ 1)
    → (let value = with_sign (begin == 1) (digits_value 10 (take (length text - begin) (drop begin text))) in SomeIff result (FitsSigned w64 value) value)
    → IsReading text (ok_or result TooLarge)
reads_signed text begin (Some value) is digits some lead (fits, value_is) =
    (spelled text begin is digits some lead ∙ ap number_text (rw (← rest_is text begin) (sym value_is)), rw value_is fits)
reads_signed text begin None is digits some lead large =
    (with_sign (begin == 1) (digits_value 10 (drop begin text)), spelled text begin is digits some lead, rw (rest_is text begin) at large)
