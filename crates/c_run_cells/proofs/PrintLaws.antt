-- What printing does.
use Rattle.std.proofs.Common.{◌≡◌, ◌+◌, ◌/◌, ◌%◌, ◌<◌, ◌≤◌, ◌∙◌, ◌++◌, ℕ, zero, suc, [], ◌∷◌, map, replicate, refl, sym, ap, arith}
use Rattle.std.proofs.lemmas.Bool.{ne_eqb}
use Rattle.std.proofs.lemmas.Int.Digits.{digits_of_step}
use Rattle.std.proofs.lemmas.List.{map-append}
use Rattle.std.specs.Prelude.{◌==◌, false}
use Rattle.std.specs.Int.Digits.{digits_of}
use Rattle.c_program.specs.Prints.{digit_text, hexadecimal_text}

pub replicate_last : (n byte : ℕ) → replicate (n + 1) byte ≡ replicate n byte ++ byte ∷ []
replicate_last zero byte = refl
replicate_last (suc n) byte =
    let more : suc n + 1 ≡ suc (n + 1) = omega arith in
    rw more (ap (λ xs. byte ∷ xs) (replicate_last n byte))

-- a number above 0 is its digits
hexadecimal-digits_of : (n : ℕ) → 0 < n → hexadecimal_text n ≡ map digit_text (digits_of 16 n)
hexadecimal-digits_of n above = let test : (n == 0) ≡ false = ne_eqb n 0 (λ e. omega (arith, e)) in rw test refl

pub hexadecimal_digit : (n : ℕ) → n < 16 → hexadecimal_text n ≡ digit_text n ∷ []
hexadecimal_digit zero below = refl
hexadecimal_digit (suc n) below =
    let none : suc n / 16 ≡ 0 = omega arith in
    let last : suc n % 16 ≡ suc n = omega arith in
    let one : digits_of 16 (suc n) ≡ suc n ∷ [] = digits_of_step 16 (suc n) (omega arith) (omega arith) ∙ rw (none, last) refl in
    hexadecimal-digits_of (suc n) (omega arith) ∙ rw one refl

-- a larger one is the text of its sixteenth, and its last digit
pub hexadecimal_step : (n : ℕ) → 16 ≤ n → hexadecimal_text n ≡ hexadecimal_text (n / 16) ++ digit_text (n % 16) ∷ []
hexadecimal_step n above =
    hexadecimal-digits_of n (omega arith)
    ∙ ap (map digit_text) (digits_of_step 16 n (omega arith) (omega arith))
    ∙ map-append digit_text (digits_of 16 (n / 16)) (n % 16 ∷ [])
    ∙ ap (λ front. front ++ digit_text (n % 16) ∷ []) (sym (hexadecimal-digits_of (n / 16) (omega arith)))
