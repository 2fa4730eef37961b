-- The reading of a text as a number is one: each refusal comes exactly where its words say, and a number that is
-- written is read back.
use Rattle.std.proofs.Common.{◌≡◌, ℕ, zero, suc, ◌<◌, ◌≤◌, ◌⊎◌, inl, inr, List, [], ◌∷◌, length, get_or, Option, Some, None, Result, Ok, Err, refl, sym, ◌∙◌, ap, arith}
use Rattle.std.specs.Prelude.{slice_index, codes, ℤ, pos, negsuc, FitsSigned}
use Rattle.std.specs.Int.{w64}
use Rattle.std.specs.Char.{IsAsciiDigit}
use Rattle.std.proofs.lemmas.Bool.{cases_order, cases_eq, cases_lt, ne_eqb}
use Rattle.std.proofs.lemmas.List.{get_or_past}
use Rattle.wiz_base.proofs.ReadingLemmas.{spelled}
use Rattle.wiz_base.specs.declared.fault.NumberFault.{NumberFault}
use Rattle.wiz_base.specs.declared.fault.NumberFault.TheVariants.{Empty, NotDigit, LeadingZero, TooLarge}
use Rattle.wiz_base.specs.Decimals.{decimal_text, number_text}
use Rattle.wiz_base.specs.Readings.{digits_begin, AreDigits, IsFirstNotDigit, HasLeadingZero, IsReading, IsDecimalUpTo}
use Rattle.wiz_base.proofs.DecimalLaws.{decimal_text-digit, decimal_text-is, decimal_text-bytes, decimal_text-nonempty, decimal_text_injective, number_text_injective}

-- how the text of each number stands to the refusals
record IsNumberShape (text : List ℕ) : Type 0 where
  some : digits_begin text < length text
  digits : AreDigits text (digits_begin text) (length text)
  lead : slice_index text (digits_begin text) ≡ 48 → text ≡ codes "0"

shape_of_decimal : (n : ℕ) (text : List ℕ) → text ≡ decimal_text n → IsNumberShape text
shape_of_decimal n [] is = absurd (let none : 0 ≡ length (decimal_text n) = ap length is in omega (arith, decimal_text-nonempty n))
shape_of_decimal n (c ∷ cs) is =
    let first : IsAsciiDigit c = rw (← is) at (decimal_text-bytes n 0 0 (decimal_text-nonempty n)) in
    let begin : digits_begin (c ∷ cs) ≡ 0 = rw (ne_eqb c 45 (λ e. omega (arith, first.0))) refl in
    record {
      some = omega arith;
      digits = λ k low high. rw (← is) at (decimal_text-bytes n k 0 (let same : length (c ∷ cs) ≡ length (decimal_text n) = ap length is in omega arith));
      lead = λ e. is ∙ zero_of n (ap (λ text. get_or text 0 0) (sym is) ∙ rw begin at e);
    }
  where
    zero_of : (n : ℕ) → get_or (decimal_text n) 0 0 ≡ 48 → decimal_text n ≡ codes "0"
    zero_of zero e = decimal_text-digit 0 (omega arith)
    zero_of (suc n) e = absurd (omega (arith, (decimal_text-is (suc n)).first (omega arith)))

shape_of_number : (value : ℤ) (text : List ℕ) → text ≡ number_text value → IsNumberShape text
shape_of_number (pos n) text is = shape_of_decimal n text is
shape_of_number (negsuc n) text is = rw is record {
  some = omega (arith, decimal_text-nonempty (suc n));
  digits = λ k low high. negative_at k low high;
  lead = λ e. absurd (omega (arith, (decimal_text-is (suc n)).first (omega arith)));
}
  where
    negative_at : (k : ℕ) → 1 ≤ k → k < length (45 ∷ decimal_text (suc n)) → IsAsciiDigit (slice_index (45 ∷ decimal_text (suc n)) k)
    negative_at zero low high = absurd (omega arith)
    negative_at (suc k) low high = decimal_text-bytes (suc n) k 0 (omega arith)

-- so no refusal but the last stands beside a number
number-not_empty : (value : ℤ) (text : List ℕ) → text ≡ number_text value → text ≡ [] → ⊥
number-not_empty value text is none = let e : length text ≡ 0 = ap length none in omega (arith, (shape_of_number value text is).some)

number-all_digits : (value : ℤ) (text : List ℕ) (at : ℕ) → text ≡ number_text value → IsFirstNotDigit text at → ⊥
number-all_digits value text at is first = elim first.within [
  | inl below ↦ first.here ((shape_of_number value text is).digits at first.behind below)
  | inr lone ↦ omega (arith, rw lone at (shape_of_number value text is).some)
]

number-no_leading_zero : (value : ℤ) (text : List ℕ) → text ≡ number_text value → HasLeadingZero text → ⊥
number-no_leading_zero value text is lead = lead.more ((shape_of_number value text is).lead lead.zero)

-- and no two of the first three stand beside each other
empty-no_byte : (text : List ℕ) (at : ℕ) → text ≡ [] → IsFirstNotDigit text at → ⊥
empty-no_byte text at none first = elim first.within [
  | inl below ↦ omega (arith, ap length none)
  | inr lone ↦ let e : [] ≡ codes "-" = sym none ∙ lone in cc
]

empty-no_zero : (text : List ℕ) → text ≡ [] → HasLeadingZero text → ⊥
empty-no_zero text none lead = let here : slice_index text (digits_begin text) ≡ 0 = ap (λ t. slice_index t (digits_begin t)) none in omega (arith, lead.zero)

byte-no_zero : (text : List ℕ) (at : ℕ) → IsFirstNotDigit text at → HasLeadingZero text → ⊥
byte-no_zero text at first lead = elim first.within [
  | inl below ↦ first.here (lead.digits at first.behind below)
  | inr lone ↦ let here : slice_index text (digits_begin text) ≡ 0 = ap (λ t. slice_index t (digits_begin t)) lone in omega (arith, lead.zero)
]

one_first : (text : List ℕ) (at other : ℕ) → IsFirstNotDigit text at → IsFirstNotDigit text other → at ≡ other
one_first text at other first second = elim (cases_order at other) [
  | inl same ↦ same
  | inr (inl below) ↦ absurd (first.here (second.before at first.behind below))
  | inr (inr above) ↦ absurd (second.here (first.before other second.behind above))
]

-- a text has one reading
pub IsReading-unique : (text : List ℕ) (r s : Result ℤ NumberFault) → IsReading text r → IsReading text s → r ≡ s
IsReading-unique text (Ok y) (Ok z) (is, fits) (is', fits') = ap Ok (number_text_injective y z (sym is ∙ is'))
IsReading-unique text (Ok y) (Err Empty) (is, fits) none = absurd (number-not_empty y text is none)
IsReading-unique text (Ok y) (Err (NotDigit at)) (is, fits) first = absurd (number-all_digits y text at is first)
IsReading-unique text (Ok y) (Err LeadingZero) (is, fits) lead = absurd (number-no_leading_zero y text is lead)
IsReading-unique text (Ok y) (Err TooLarge) (is, fits) (z, is', large) = absurd (large (rw (number_text_injective y z (sym is ∙ is')) at fits))
IsReading-unique text (Err Empty) (Ok z) none (is, fits) = absurd (number-not_empty z text is none)
IsReading-unique text (Err Empty) (Err Empty) none none' = refl
IsReading-unique text (Err Empty) (Err (NotDigit at)) none first = absurd (empty-no_byte text at none first)
IsReading-unique text (Err Empty) (Err LeadingZero) none lead = absurd (empty-no_zero text none lead)
IsReading-unique text (Err Empty) (Err TooLarge) none (z, is, large) = absurd (number-not_empty z text is none)
IsReading-unique text (Err (NotDigit at)) (Ok z) first (is, fits) = absurd (number-all_digits z text at is first)
IsReading-unique text (Err (NotDigit at)) (Err Empty) first none = absurd (empty-no_byte text at none first)
IsReading-unique text (Err (NotDigit at)) (Err (NotDigit other)) first second = ap (λ (place : ℕ). Err (NotDigit place)) (one_first text at other first second)
IsReading-unique text (Err (NotDigit at)) (Err LeadingZero) first lead = absurd (byte-no_zero text at first lead)
IsReading-unique text (Err (NotDigit at)) (Err TooLarge) first (z, is, large) = absurd (number-all_digits z text at is first)
IsReading-unique text (Err LeadingZero) (Ok z) lead (is, fits) = absurd (number-no_leading_zero z text is lead)
IsReading-unique text (Err LeadingZero) (Err Empty) lead none = absurd (empty-no_zero text none lead)
IsReading-unique text (Err LeadingZero) (Err (NotDigit at)) lead first = absurd (byte-no_zero text at first lead)
IsReading-unique text (Err LeadingZero) (Err LeadingZero) lead lead' = refl
IsReading-unique text (Err LeadingZero) (Err TooLarge) lead (z, is, large) = absurd (number-no_leading_zero z text is lead)
IsReading-unique text (Err TooLarge) (Ok z) (y, is, large) (is', fits) = absurd (large (rw (number_text_injective z y (sym is' ∙ is)) at fits))
IsReading-unique text (Err TooLarge) (Err Empty) (y, is, large) none = absurd (number-not_empty y text is none)
IsReading-unique text (Err TooLarge) (Err (NotDigit at)) (y, is, large) first = absurd (number-all_digits y text at is first)
IsReading-unique text (Err TooLarge) (Err LeadingZero) (y, is, large) lead = absurd (number-no_leading_zero y text is lead)
IsReading-unique text (Err TooLarge) (Err TooLarge) large large' = refl

-- so each number of 64 bits is read from its text
pub IsReading-number : (text : List ℕ) (value : ℤ) (r : Result ℤ NumberFault) → text ≡ number_text value → FitsSigned w64 value → IsReading text r → r ≡ Ok value
IsReading-number text value r is fits reading = IsReading-unique text r (Ok value) reading (is, fits)

-- and each number up to the bound from its text
pub IsDecimalUpTo-number : (text : List ℕ) (most value : ℕ) (r : Option ℕ) → text ≡ decimal_text value → value ≤ most → IsDecimalUpTo text most r → r ≡ Some value
IsDecimalUpTo-number text most value (Some found) is fits (is', fits') = ap Some (decimal_text_injective found value (sym is' ∙ is))
IsDecimalUpTo-number text most value None is fits none = absurd (none value fits is)

-- the grammar of numbers: `0`, or an optional `-`, a digit 1 to 9 and further digits
pub record IsNonzeroNumber (text : List ℕ) : Type 0 where
  pub digits : AreDigits text (digits_begin text) (length text)
  pub first : 48 < slice_index text (digits_begin text)

abbrev pub IsNumber : List ℕ → Type 0
IsNumber text = (text ≡ codes "0") ⊎ IsNonzeroNumber text

-- has exactly the texts of numbers
pub number_text-IsNumber : (text : List ℕ) (value : ℤ) → text ≡ number_text value → IsNumber text
number_text-IsNumber text value is =
    let shape : IsNumberShape text = shape_of_number value text is in
    let digit : IsAsciiDigit (slice_index text (digits_begin text)) = shape.digits (digits_begin text) (omega arith) shape.some in
    elim (cases_eq (slice_index text (digits_begin text)) 48) [
      | inl zero_first ↦ inl (shape.lead zero_first)
      | inr other ↦ inr record { digits = shape.digits; first = omega (arith, digit.0) }
    ]

pub IsNumber-number_text : (text : List ℕ) → IsNumber text → (value : ℤ) × (text ≡ number_text value)
IsNumber-number_text text (inl is) = (pos 0, is ∙ sym (decimal_text-digit 0 (omega arith)))
IsNumber-number_text text (inr number) =
    let some : digits_begin text < length text = elim (cases_lt (digits_begin text) (length text)) [
      | inl within ↦ within
      | inr past ↦ absurd (let none : slice_index text (digits_begin text) ≡ 0 = get_or_past text (digits_begin text) 0 past in omega (arith, number.first))
    ] in
    (_, spelled text (digits_begin text) refl number.digits some (λ zero_first. absurd (omega (arith, number.first))))
