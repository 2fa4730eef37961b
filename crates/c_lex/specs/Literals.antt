-- The numbers of C. (ISO C, "Integer constants", without suffixes.)
use Rattle.std.specs.Prelude.{◌==◌, ◌&&◌, ◌||◌, ℕ, Bool, if◌then◌else◌, List, Option, Some, None, slice_index, drop, length, nat_le, nat_lt}
use Rattle.std.specs.Char.{digit_value}
use Rattle.std.specs.List.{list_all}
use Rattle.std.specs.Str.Parse.{digits_value}
use Rattle.c_lex.specs.declared.limits.TheConstants.{GREATEST_LITERAL}

-- after `0x` or `0X` the digits are hexadecimal
abbrev pub prefix_length : List ℕ → ℕ
prefix_length word = if (slice_index word 0 == 48) && ((slice_index word 1 == 120) || (slice_index word 1 == 88)) then 2 else 0

-- with another `0` before them they are octal, else decimal
abbrev pub base : List ℕ → ℕ
base word = if prefix_length word == 2 then 16 else (if slice_index word 0 == 48 then 8 else 10)

-- what follows the prefix
abbrev pub digits_of : List ℕ → List ℕ
digits_of word = drop (prefix_length word) word

-- the number that the digits make in their base
abbrev pub literal_value : List ℕ → ℕ
literal_value word = digits_value (base word) (digits_of word)

-- one digit or more of a base, and nothing else
abbrev pub are_digits : ℕ → List ℕ → Bool
are_digits radix digits = nat_lt 0 (length digits) && list_all (λ byte. nat_lt (digit_value byte) radix) digits

-- digits of its base, with a value that an int has
abbrev pub is_literal : List ℕ → Bool
is_literal word = are_digits (base word) (digits_of word) && nat_le (literal_value word) GREATEST_LITERAL

-- the number that a word spells, if it is a literal
abbrev pub literal : List ℕ → Option ℕ
literal word = if is_literal word then Some (literal_value word) else None
