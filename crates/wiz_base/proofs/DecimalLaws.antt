-- Laws of numbers as decimal text, for what is written and read above.
use Rattle.std.proofs.Common.{◌≡◌, ◌≢◌, ℕ, zero, suc, ◌+◌, ◌*◌, ◌/◌, ◌%◌, ◌^◌, ◌<◌, ◌≤◌, ◌⊎◌, inl, inr, false, List, [], ◌∷◌, ◌++◌, map, length, get_or, refl, sym, ◌∙◌, ap, arith, append_assoc, length-append}
use Rattle.std.specs.Prelude.{◌==◌, All, slice_index, ℤ, pos, negsuc}
use Rattle.std.specs.Int.Digits.{digits_of}
use Rattle.std.specs.Str.Parse.{AllDigits, digits_value, digits_value_after}
use Rattle.std.specs.Char.{digit_value, IsAsciiDigit}
use Rattle.std.proofs.lemmas.Bool.{ne_eqb, cases_lt}
use Rattle.std.proofs.lemmas.List.{map-append, append-nil, length-map}
use Rattle.std.proofs.lemmas.List.Elements.{All-from_get_or, All-weaker, All-cons}
use Rattle.std.proofs.Math.ListN.{get_or-append}
use Rattle.std.proofs.lemmas.Nat.{div-mul-add, mod-mul-add}
use Rattle.std.proofs.lemmas.Str.Parse.{digit_from_value, digit_at}
use Rattle.std.proofs.lemmas.Int.Digits.{digits_of_step, length-digits_of-le, digits_push, digits_value_push}
use Rattle.std.proofs.lemmas.Str.{digit_value_digit}
use Rattle.wiz_base.specs.Decimals.{decimal_text, number_text}

-- a number above 0 is its digits
decimal_text-digits_of : (n : ℕ) → 0 < n → decimal_text n ≡ map (λ digit. 48 + digit) (digits_of 10 n)
unfolding decimal_text
decimal_text-digits_of n above = let test : (n == 0) ≡ false = ne_eqb n 0 (λ e. omega (arith, e)) in rw test refl

-- a number below 10 is one digit
pub decimal_text-digit : (n : ℕ) → n < 10 → decimal_text n ≡ (48 + n) ∷ []
unfolding decimal_text
decimal_text-digit zero below = refl
decimal_text-digit (suc n) below =
    let none : suc n / 10 ≡ 0 = omega arith in
    let last : suc n % 10 ≡ suc n = omega arith in
    let one : digits_of 10 (suc n) ≡ suc n ∷ [] = digits_of_step 10 (suc n) (omega arith) (omega arith) ∙ rw (none, last) refl in
    decimal_text-digits_of (suc n) (omega arith) ∙ rw one refl

-- a larger one is the text of its tenth, and its last digit
pub decimal_text-step : (n : ℕ) → 10 ≤ n → decimal_text n ≡ decimal_text (n / 10) ++ (48 + n % 10) ∷ []
decimal_text-step n above =
    decimal_text-digits_of n (omega arith)
    ∙ ap (map (λ digit. 48 + digit)) (digits_of_step 10 n (omega arith) (omega arith))
    ∙ map-append (λ digit. 48 + digit) (digits_of 10 (n / 10)) (n % 10 ∷ [])
    ∙ ap (λ front. front ++ (48 + n % 10) ∷ []) (sym (decimal_text-digits_of (n / 10) (omega arith)))

-- so what holds of one digit, and after one more digit, holds of each text
by_steps_within : (P : ℕ → List ℕ → Type 0)
    → ((n : ℕ) → n < 10 → P n ((48 + n) ∷ []))
    → ((n : ℕ) (front : List ℕ) → 10 ≤ n → P (n / 10) front → P n (front ++ (48 + n % 10) ∷ []))
    → (within n : ℕ) → n ≤ within → P n (decimal_text n)
by_steps_within P one more zero n bound = rw (decimal_text-digit n (omega arith)) (one n (omega arith))
by_steps_within P one more (suc within) n bound =
    elim (cases_lt n 10) [
      | inl below ↦ rw (decimal_text-digit n below) (one n below)
      | inr above ↦ rw (decimal_text-step n above) (more n (decimal_text (n / 10)) above (by_steps_within P one more within (n / 10) (omega arith)))
    ]

pub decimal_text_by_steps : (P : ℕ → List ℕ → Type 0)
    → ((n : ℕ) → n < 10 → P n ((48 + n) ∷ []))
    → ((n : ℕ) (front : List ℕ) → 10 ≤ n → P (n / 10) front → P n (front ++ (48 + n % 10) ∷ []))
    → (n : ℕ) → P n (decimal_text n)
decimal_text_by_steps P one more n = by_steps_within P one more n n (omega arith)

-- what such a text is: digits, at least one, that make the number; and only 0 begins with a 0
pub record IsDecimalOf (n : ℕ) (text : List ℕ) : Type 0 where
  pub digits : AllDigits 10 text
  pub value : digits_value 10 text ≡ n
  pub some : 0 < length text
  pub first : 0 < n → 48 < get_or text 0 0

-- the byte of a digit
digit_value-byte : (d : ℕ) → d < 10 → digit_value (48 + d) ≡ d
digit_value-byte d below = omega (arith, digit_value_digit (48 + d) (omega arith, omega arith))

pub decimal_text-is : (n : ℕ) → IsDecimalOf n (decimal_text n)
decimal_text-is n = decimal_text_by_steps IsDecimalOf
    (λ n below. let byte : digit_value (48 + n) ≡ n = digit_value-byte n below in record {
      digits = (omega arith, tt);
      value = omega arith;
      some = omega arith;
      first = λ above. omega arith;
    })
    (λ n front above is.
    let byte : digit_value (48 + n % 10) ≡ n % 10 = digit_value-byte (n % 10) (omega arith) in
    record {
      digits = digits_push 10 front (48 + n % 10) is.digits (omega arith);
      value = digits_value_push 10 front (48 + n % 10) ∙ (let v : digits_value 10 front ≡ n / 10 = is.value in omega arith);
      some = omega (arith, length-append front ((48 + n % 10) ∷ []));
      first = λ _. rw (get_or-append front ((48 + n % 10) ∷ []) 0 0 is.some) (is.first (omega arith));
    })
    n

-- digits behind those of a number above 0
decimal_text-grown : (v : ℕ) (front rest : List ℕ) → 0 < v → decimal_text v ≡ front → AllDigits 10 rest → decimal_text (digits_value_after 10 v rest) ≡ front ++ rest
decimal_text-grown v front [] above is digits = is ∙ sym (append-nil front)
decimal_text-grown v front (c ∷ cs) above is (digit, digits) =
    let byte : digit_value c + 48 ≡ c = digit_value_digit c (digit_from_value c digit) in
    let tenth : (v * 10 + digit_value c) / 10 ≡ v = div-mul-add v 10 (digit_value c) digit in
    let last : (v * 10 + digit_value c) % 10 ≡ digit_value c = mod-mul-add v 10 (digit_value c) digit in
    let same : 48 + digit_value c ≡ c = omega arith in
    let step : decimal_text (v * 10 + digit_value c) ≡ front ++ c ∷ [] =
    decimal_text-step (v * 10 + digit_value c) (omega arith) ∙ rw (tenth, last, same, is) refl in
    decimal_text-grown (v * 10 + digit_value c) (front ++ c ∷ []) cs (omega arith) step digits ∙ append_assoc front (c ∷ []) cs

-- digits with no 0 before others are the text of the number that they make
pub decimal_text-digits_value : (text : List ℕ) → AllDigits 10 text → 0 < length text → (get_or text 0 0 ≡ 48 → length text ≡ 1) → decimal_text (digits_value 10 text) ≡ text
decimal_text-digits_value [] digits some lead = absurd (omega arith)
decimal_text-digits_value (c ∷ []) (digit, digits) some lead =
    let byte : digit_value c + 48 ≡ c = digit_value_digit c (digit_from_value c digit) in
    let same : 48 + (0 * 10 + digit_value c) ≡ c = omega arith in
    decimal_text-digit (0 * 10 + digit_value c) (omega arith) ∙ rw same refl
decimal_text-digits_value (c ∷ (d ∷ cs)) (digit, digits) some lead =
    let byte : digit_value c + 48 ≡ c = digit_value_digit c (digit_from_value c digit) in
    let same : 48 + (0 * 10 + digit_value c) ≡ c = omega arith in
    let large : c ≢ 48 = λ e. absurd (omega (arith, lead e)) in
    decimal_text-grown (0 * 10 + digit_value c) (c ∷ []) (d ∷ cs) (omega arith)
    (decimal_text-digit (0 * 10 + digit_value c) (omega arith) ∙ rw same refl) digits

-- two numbers never have one text
pub decimal_text_injective : (m n : ℕ) → decimal_text m ≡ decimal_text n → m ≡ n
decimal_text_injective m n e = sym (decimal_text-is m).value ∙ ap (digits_value 10) e ∙ (decimal_text-is n).value

-- each byte is a digit, so none is a sign, a blank, a newline or another mark
pub decimal_text-bytes : (n : ℕ) → All IsAsciiDigit (decimal_text n)
decimal_text-bytes n = All-from_get_or IsAsciiDigit (decimal_text n) 0 (λ k below. digit_at (decimal_text n) k (decimal_text-is n).digits below)

pub decimal_text-nonempty : (n : ℕ) → 0 < length (decimal_text n)
decimal_text-nonempty n = (decimal_text-is n).some

-- how many digits at most
pub length-decimal_text-le : (k n : ℕ) → 0 < k → n < 10 ^ k → length (decimal_text n) ≤ k
unfolding decimal_text
length-decimal_text-le k zero some below = some
length-decimal_text-le k (suc n) some below =
    rw (decimal_text-digits_of (suc n) (omega arith), length-map) (length-digits_of-le 10 k (suc n) (omega arith) below)

-- digits end where no digit follows
digits_and_rest : (ds ds' rest rest' : List ℕ) → AllDigits 10 ds → AllDigits 10 ds' → ¬ (IsAsciiDigit (slice_index rest 0)) → ¬ (IsAsciiDigit (slice_index rest' 0))
    → ds ++ rest ≡ ds' ++ rest' → (ds ≡ ds') × (rest ≡ rest')
digits_and_rest [] [] rest rest' all all' other other' e = (refl, e)
digits_and_rest [] (c ∷ cs) rest rest' all (digit, all') other other' e =
    let first : slice_index rest 0 ≡ c = ap (λ text. slice_index text 0) e in
    absurd (other (rw first (digit_from_value c digit)))
digits_and_rest (c ∷ cs) [] rest rest' (digit, all) all' other other' e =
    let first : c ≡ slice_index rest' 0 = ap (λ text. slice_index text 0) e in
    absurd (other' (rw (← first) (digit_from_value c digit)))
digits_and_rest (c ∷ cs) (d ∷ ds) rest rest' (digit, all) (digit', all') other other' e =
    let same : (cs ≡ ds) × (rest ≡ rest') = digits_and_rest cs ds rest rest' all all' other other' (cc) in
    let first : c ≡ d = cc in
    let others = same.0 in
    (cc, same.1)

-- a number and what stands behind it are told apart, where that begins with no digit
pub decimal_text-and_rest : (m n : ℕ) (rest rest' : List ℕ) → ¬ (IsAsciiDigit (slice_index rest 0)) → ¬ (IsAsciiDigit (slice_index rest' 0))
    → decimal_text m ++ rest ≡ decimal_text n ++ rest' → (m ≡ n) × (rest ≡ rest')
decimal_text-and_rest m n rest rest' other other' e =
    let same = digits_and_rest (decimal_text m) (decimal_text n) rest rest' (decimal_text-is m).digits (decimal_text-is n).digits other other' e in
    (decimal_text_injective m n same.0, same.1)

-- a sign is no digit
first_is_digit : (n : ℕ) (rest tail : List ℕ) → decimal_text n ++ rest ≡ 45 ∷ tail → ⊥
first_is_digit n rest tail e =
    let some = decimal_text-nonempty n in
    let range : IsAsciiDigit (get_or (decimal_text n) 0 0) = decimal_text-bytes n 0 0 some in
    let first : get_or (decimal_text n) 0 0 ≡ 45 = sym (get_or-append (decimal_text n) rest 0 0 some) ∙ ap (λ text. get_or text 0 0) e in
    omega (arith, range.0)

-- the same of numbers that may be below 0
pub number_text-and_rest : (y z : ℤ) (rest rest' : List ℕ) → ¬ (IsAsciiDigit (slice_index rest 0)) → ¬ (IsAsciiDigit (slice_index rest' 0))
    → number_text y ++ rest ≡ number_text z ++ rest' → (y ≡ z) × (rest ≡ rest')
number_text-and_rest (pos m) (pos n) rest rest' other other' e =
    let same = decimal_text-and_rest m n rest rest' other other' e in
    (ap pos same.0, same.1)
number_text-and_rest (pos m) (negsuc n) rest rest' other other' e = absurd (first_is_digit m rest _ e)
number_text-and_rest (negsuc m) (pos n) rest rest' other other' e = absurd (first_is_digit n rest' _ (sym e))
number_text-and_rest (negsuc m) (negsuc n) rest rest' other other' e =
    let same : (suc m ≡ suc n) × (rest ≡ rest') = decimal_text-and_rest (suc m) (suc n) rest rest' other other' (cc) in
    let size : m ≡ n = let s = same.0 in omega arith in
    (ap negsuc size, same.1)

pub number_text_injective : (y z : ℤ) → number_text y ≡ number_text z → y ≡ z
number_text_injective y z e =
    let none : ¬ (IsAsciiDigit (slice_index [] 0)) = λ range. omega (arith, range.0) in
    (number_text-and_rest y z [] [] none none (ap (λ text. text ++ []) e)).0

-- each byte is a digit or `-`
pub number_text-bytes : (z : ℤ) → All (λ byte. (byte ≡ 45) ⊎ IsAsciiDigit byte) (number_text z)
number_text-bytes (pos n) = All-weaker IsAsciiDigit (λ byte. (byte ≡ 45) ⊎ IsAsciiDigit byte) (λ byte digit. inr digit) (decimal_text n) (decimal_text-bytes n)
number_text-bytes (negsuc n) =
    All-cons (λ byte. (byte ≡ 45) ⊎ IsAsciiDigit byte) 45 (decimal_text (suc n)) (inl refl) (All-weaker IsAsciiDigit (λ byte. (byte ≡ 45) ⊎ IsAsciiDigit byte) (λ byte digit. inr digit) (decimal_text (suc n)) (decimal_text-bytes (suc n)))

pub number_text-nonempty : (z : ℤ) → 0 < length (number_text z)
number_text-nonempty (pos n) = decimal_text-nonempty n
number_text-nonempty (negsuc n) = omega arith

-- a byte that is neither a digit nor `-` stands in no number: no blank, no newline, no `.`, `:`, `,` or `=`
pub number_text-excludes : (z : ℤ) (byte : ℕ) → byte ≢ 45 → ¬ (IsAsciiDigit byte) → All (λ c. c ≢ byte) (number_text z)
number_text-excludes z byte minus other =
    All-weaker (λ c. (c ≡ 45) ⊎ IsAsciiDigit c) (λ c. c ≢ byte) (λ c either e. elim either [ inl sign ↦ minus (sym e ∙ sign) | inr digit ↦ other (rw e at digit) ]) (number_text z) (number_text-bytes z)

pub decimal_text-excludes : (n byte : ℕ) → ¬ (IsAsciiDigit byte) → All (λ c. c ≢ byte) (decimal_text n)
decimal_text-excludes n byte other =
    All-weaker IsAsciiDigit (λ c. c ≢ byte) (λ c digit e. other (rw e at digit)) (decimal_text n) (decimal_text-bytes n)
