-- Numbers as decimal text.
use Rattle.std.specs.Prelude.{ℕ, suc, ◌+◌, ◌==◌, if◌then◌else◌, List, ◌∷◌, map, codes, ℤ, pos, negsuc}
use Rattle.std.specs.Int.Digits.{digits_of}

-- a number from 0 on in decimal: `0`, or its digits, the highest first
unfoldable pub decimal_text : ℕ → List ℕ
decimal_text n = if n == 0 then codes "0" else map (λ digit. 48 + digit) (digits_of 10 n)

-- any whole number: one below 0 is `-` and its size
abbrev pub number_text : ℤ → List ℕ
number_text (pos n) = decimal_text n
number_text (negsuc n) = 45 ∷ decimal_text (suc n)
