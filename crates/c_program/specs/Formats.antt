-- The formats of `printf`: a format is pieces, each spelled in one of four ways. (ISO C, "Escape sequences" and "The fprintf
-- function": of the conversions `%%`, `%d`, `%i` and `%x` are here, with `-` or `0`, and a width from 1 to 99.)
use Rattle.std.specs.Prelude.{◌≡◌, ◌≢◌, ◌≤◌, ◌⊎◌, ◌+◌, ◌*◌, ◌==◌, ◌||◌, ◌++◌, ℕ, if◌then◌else◌, List, [], ◌∷◌, Option, Some, None}
use Rattle.c_program.specs.declared.format.Base.{Base}
use Rattle.c_program.specs.declared.format.Base.TheVariants.{Decimal, Hexadecimal}
use Rattle.c_program.specs.declared.format.Filling.{Filling}
use Rattle.c_program.specs.declared.format.Filling.TheVariants.{Blanks, Left, Zeros}
use Rattle.c_program.specs.declared.format.FormatPiece.{FormatPiece}
use Rattle.c_program.specs.declared.format.FormatPiece.TheVariants.{Byte, Int}

-- the byte that an escape means: `\n`, `\t`, `\r`, `\\`, `\"` and `\'`
abbrev pub escaped : ℕ → Option ℕ
escaped byte =
    if byte == 110 then Some 10
    else (if byte == 116 then Some 9
    else (if byte == 114 then Some 13
    else (if (byte == 92) || ((byte == 34) || (byte == 39)) then Some byte
    else None)))

-- `-` fills with blanks on the right, `0` with zeros
abbrev pub filling_flag : Filling → List ℕ
filling_flag Blanks = []
filling_flag Left = 45 ∷ []
filling_flag Zeros = 48 ∷ []

-- a width is one or two digits, of which the first is not 0; without one it is 0
pub data IsWidth : List ℕ → ℕ → Type 0 where
  none : IsWidth [] 0
  one : {tens : ℕ} → 1 ≤ tens → tens ≤ 9 → IsWidth ((48 + tens) ∷ []) tens
  two : {tens ones : ℕ} → 1 ≤ tens → tens ≤ 9 → ones ≤ 9 → IsWidth ((48 + tens) ∷ (48 + ones) ∷ []) (tens * 10 + ones)

-- `d`, `i` and `x`
pub data IsConversion : ℕ → Base → Type 0 where
  decimal : IsConversion 100 Decimal
  integer : IsConversion 105 Decimal
  hexadecimal : IsConversion 120 Hexadecimal

-- a byte that is neither `\` nor `%`, an escape, `%%`, or `%` [`-` | `0`] [width] conversion
pub data IsSpelled : List ℕ → FormatPiece → Type 0 where
  plain : {byte : ℕ} → byte ≢ 92 → byte ≢ 37 → IsSpelled (byte ∷ []) (Byte byte)
  escape : {byte meant : ℕ} → escaped byte ≡ Some meant → IsSpelled (92 ∷ byte ∷ []) (Byte meant)
  percent : IsSpelled (37 ∷ 37 ∷ []) (Byte 37)
  int : {filling : Filling} {digits : List ℕ} {width byte : ℕ} {base : Base} → IsWidth digits width → IsConversion byte base
      → IsSpelled (37 ∷ filling_flag filling ++ digits ++ byte ∷ []) (Int filling width base)

-- the bytes are the spellings of the pieces, one after the other
pub data IsFormat : List ℕ → List FormatPiece → Type 0 where
  end : IsFormat [] []
  more : {spelling bytes : List ℕ} {piece : FormatPiece} {pieces : List FormatPiece} → IsSpelled spelling piece → IsFormat bytes pieces
      → IsFormat (spelling ++ bytes) (piece ∷ pieces)

-- bytes that spell pieces, and bytes that spell none
abbrev pub SpelledOrNot : List ℕ → Type 0
SpelledOrNot bytes = ((pieces : List FormatPiece) × IsFormat bytes pieces) ⊎ ((pieces : List FormatPiece) → IsFormat bytes pieces → ⊥)

-- how many ints a piece takes
abbrev pub ints_taken_by : Option FormatPiece → ℕ
ints_taken_by (Some (Int filling width base)) = 1
ints_taken_by _ = 0

-- how many ints the pieces of a format take
abbrev pub ints_taken : List FormatPiece → ℕ
ints_taken [] = 0
ints_taken (piece ∷ pieces) = ints_taken_by (Some piece) + ints_taken pieces
