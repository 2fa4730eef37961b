-- Words of the command line.
use Rattle.std.specs.Prelude.{ℕ, ◌≤◌, List}
use Rattle.std.specs.Str.Parse.{IsNumeral, digits_value, without_leading_plus}

-- the word is a numeral, a plus before it allowed, of a number from low to high
abbrev pub IsBetween : ℕ → ℕ → List ℕ → Type 0
IsBetween low high word =
    IsNumeral 10 (without_leading_plus word)
    × (low ≤ digits_value 10 (without_leading_plus word)) × (digits_value 10 (without_leading_plus word) ≤ high)

-- the number that the word writes
abbrev pub number_of : List ℕ → ℕ
number_of word = digits_value 10 (without_leading_plus word)
