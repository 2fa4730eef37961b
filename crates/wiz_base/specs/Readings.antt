-- What a text says that is read as a number.
use Rattle.std.specs.Prelude.{◌≡◌, ◌≢◌, ℕ, ◌<◌, ◌≤◌, ◌⊎◌, ◌==◌, if◌then◌else◌, List, [], length, slice_index, codes, Bool, true, false, ℤ, pos, neg_ℤ, FitsSigned, Option, Some, None, Result, Ok, Err}
use Rattle.std.specs.Int.{w64}
use Rattle.std.specs.Char.{IsAsciiDigit}
use Rattle.wiz_base.specs.declared.fault.NumberFault.{NumberFault}
use Rattle.wiz_base.specs.declared.fault.NumberFault.TheVariants.{Empty, NotDigit, LeadingZero, TooLarge}
use Rattle.wiz_base.specs.Decimals.{decimal_text, number_text}

-- where the digits begin: after a `-`, if the text begins with one
abbrev pub digits_begin : List ℕ → ℕ
digits_begin text = if slice_index text 0 == 45 then 1 else 0

-- the bytes from one place on are digits, up to another
abbrev pub AreDigits : List ℕ → ℕ → ℕ → Type 0
AreDigits text low high = (k : ℕ) → low ≤ k → k < high → IsAsciiDigit (slice_index text k)

-- a number of that size, below 0 where so said
abbrev pub with_sign : Bool → ℕ → ℤ
with_sign true size = neg_ℤ (pos size)
with_sign false size = pos size

-- the first byte after the sign that is no digit, or the end after a lone `-`
pub record IsFirstNotDigit (text : List ℕ) (at : ℕ) : Type 0 where
  pub behind : digits_begin text ≤ at
  pub before : AreDigits text (digits_begin text) at
  pub here : ¬ (IsAsciiDigit (slice_index text at))
  pub within : (at < length text) ⊎ (text ≡ codes "-")

-- there are digits after the sign, the first is a 0, and the text is more than that
pub record HasLeadingZero (text : List ℕ) : Type 0 where
  pub digits : AreDigits text (digits_begin text) (length text)
  pub zero : slice_index text (digits_begin text) ≡ 48
  pub more : text ≢ codes "0"

-- the number that is spelled so, or the one reason why there is none among the 64-bit ones
abbrev pub IsReading : List ℕ → Result ℤ NumberFault → Type 0
IsReading text (Ok value) = (text ≡ number_text value) × FitsSigned w64 value
IsReading text (Err Empty) = text ≡ []
IsReading text (Err (NotDigit at)) = IsFirstNotDigit text at
IsReading text (Err LeadingZero) = HasLeadingZero text
IsReading text (Err TooLarge) = (value : ℤ) × (text ≡ number_text value) × ¬ (FitsSigned w64 value)

-- some number from 0 on is spelled so
abbrev pub IsDecimal : List ℕ → Type 0
IsDecimal text = (value : ℕ) × (text ≡ decimal_text value)

-- the number from 0 up to `most` that is spelled so, and none if and only if there is no such number
abbrev pub IsDecimalUpTo : List ℕ → ℕ → Option ℕ → Type 0
IsDecimalUpTo text most (Some value) = (text ≡ decimal_text value) × (value ≤ most)
IsDecimalUpTo text most None = (value : ℕ) → value ≤ most → text ≢ decimal_text value
