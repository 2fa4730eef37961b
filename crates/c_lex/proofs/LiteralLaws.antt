-- Digits by their places, and what a number's word spells.
use Rattle.std.proofs.Common.{◌≡◌, ◌∙◌, ◌<◌, ◌≤◌, ◌-◌, ◌==◌, ℕ, zero, suc, true, false, List, [], ◌∷◌, Option, Some, None, SomeIff, length, take, drop, get_or, nat_lt, nat_le, inl, inr, refl, ap, subst, arith}
use Rattle.std.proofs.lemmas.Bool.{and_from, and_parts, cases_Bool, eqb-false, leb-true}
use Rattle.std.proofs.lemmas.Bool.Decides.{nat_tests}
use Rattle.std.proofs.lemmas.List.{take_rest}
use Rattle.std.specs.Char.{digit_value}
use Rattle.std.specs.List.{list_all}
use Rattle.std.specs.Str.Parse.{AllDigits, digits_value}
use Rattle.c_lex.specs.Literals.{are_digits, base, digits_of, is_literal, literal, literal_value, prefix_length}
use Rattle.c_lex.specs.declared.limits.TheConstants.{GREATEST_LITERAL}

pub digit_below : (base : ℕ) (digits : List ℕ) (i : ℕ) → AllDigits base digits → i < length digits → digit_value (get_or digits i 0) < base
digit_below base [] i all below = absurd (omega arith)
digit_below base (digit ∷ digits) zero all below = all.0
digit_below base (digit ∷ digits) (suc i) all below = digit_below base digits i all.1 (omega arith)

tells_digits : (radix : ℕ) (bytes : List ℕ) → list_all (λ byte. nat_lt (digit_value byte) radix) bytes ≡ true → AllDigits radix bytes
tells_digits radix [] e = tt
tells_digits radix (byte ∷ bytes) e =
    let parts = and_parts _ _ e in
    let below : nat_lt (digit_value byte) radix ≡ true = parts.0 in
    (grind (arith, nat_tests), tells_digits radix bytes parts.1)

told_digits : (radix : ℕ) (bytes : List ℕ) → AllDigits radix bytes → list_all (λ byte. nat_lt (digit_value byte) radix) bytes ≡ true
told_digits radix [] all = refl
told_digits radix (byte ∷ bytes) all =
    let below : digit_value byte < radix = all.0 in
    and_from _ _ (grind (arith, nat_tests)) (told_digits radix bytes all.1)

-- ---- the number of a word, by its digits

told : (word : List ℕ) → 0 < length (digits_of word) → AllDigits (base word) (digits_of word) → literal_value word ≤ GREATEST_LITERAL → is_literal word ≡ true
told word some digits small =
    and_from _ _ (and_from _ _ (grind (arith, nat_tests)) (told_digits (base word) (digits_of word) digits)) (grind (arith, nat_tests))

tells : (word : List ℕ) → is_literal word ≡ true → AllDigits (base word) (digits_of word) × (literal_value word ≤ GREATEST_LITERAL)
tells word is =
    let parts = and_parts (are_digits (base word) (digits_of word)) (nat_le (literal_value word) GREATEST_LITERAL) is in
    (tells_digits (base word) (digits_of word) (and_parts _ _ parts.0).1, leb-true (literal_value word) GREATEST_LITERAL parts.1)

number_of : (word : List ℕ) (value : Option ℕ) → 0 < length (digits_of word)
    → SomeIff value (AllDigits (base word) (digits_of word) × (literal_value word ≤ GREATEST_LITERAL)) (literal_value word) → value ≡ literal word
number_of word None some never = elim (cases_Bool (is_literal word)) [ inl is ↦ absurd (never (tells word is)) | inr none ↦ rw none refl ]
number_of word (Some value) some (all, same) = rw (told word some all.0 all.1, same) refl

-- the same of what is left of the word, in the base that was found
pub number_from : (word digits : List ℕ) (prefix radix : ℕ) (value : Option ℕ) → prefix ≡ prefix_length word → radix ≡ base word
    → digits ≡ take (length word - prefix) (drop prefix word) → (length digits == 0) ≡ false
    → SomeIff value (AllDigits radix digits × (digits_value radix digits ≤ GREATEST_LITERAL)) (digits_value radix digits) → value ≡ literal word
number_from word digits prefix radix value before of left some is =
    let rest : digits ≡ digits_of word = left ∙ take_rest word prefix ∙ ap (λ n. drop n word) before in
    let none : length digits ≡ 0 → ⊥ = eqb-false (length digits) 0 some in
    let more : 0 < length digits = omega (arith, none) in
    number_of word value (subst (λ digits. 0 < length digits) rest more)
    (subst (λ radix. SomeIff value (AllDigits radix (digits_of word) × (digits_value radix (digits_of word) ≤ GREATEST_LITERAL)) (digits_value radix (digits_of word))) of
    (subst (λ digits. SomeIff value (AllDigits radix digits × (digits_value radix digits ≤ GREATEST_LITERAL)) (digits_value radix digits)) rest is))

-- ---- whether there is one

pub literal_there : (word : List ℕ) (value : ℕ) → Some value ≡ literal word → is_literal word ≡ true
literal_there word value same = elim (cases_Bool (is_literal word)) [ inl is ↦ is | inr none ↦ absurd (let no : Some value ≡ None = rw none at same in cc) ]

pub no_literal : (word : List ℕ) → None ≡ literal word → is_literal word ≡ false
no_literal word same = elim (cases_Bool (is_literal word)) [ inl is ↦ absurd (let no : None ≡ Some (literal_value word) = rw is at same in cc) | inr none ↦ none ]
