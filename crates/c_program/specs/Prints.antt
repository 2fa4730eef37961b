-- What `printf` prints. (ISO C, "The fprintf function".)
use Rattle.std.specs.Prelude.{◌+◌, ◌-◌, ◌++◌, ◌==◌, ℕ, suc, ℤ, pos, negsuc, List, [], ◌∷◌, if◌then◌else◌, nat_lt, length, map, replicate}
use Rattle.std.specs.Int.{cast_unsigned, w32}
use Rattle.std.specs.Int.Digits.{digits_of}
use Rattle.wiz_base.specs.Decimals.{decimal_text}
use Rattle.c_program.specs.declared.format.Base.{Base}
use Rattle.c_program.specs.declared.format.Base.TheVariants.{Decimal, Hexadecimal}
use Rattle.c_program.specs.declared.format.Filling.{Filling}
use Rattle.c_program.specs.declared.format.Filling.TheVariants.{Blanks, Left, Zeros}
use Rattle.c_program.specs.declared.format.FormatPiece.{FormatPiece}
use Rattle.c_program.specs.declared.format.FormatPiece.TheVariants.{Byte, Int}

-- `0` to `9`, `a` to `f`
abbrev pub digit_text : ℕ → ℕ
digit_text digit = if nat_lt digit 10 then 48 + digit else 87 + digit

-- the hexadecimal digits of a number
abbrev pub hexadecimal_text : ℕ → List ℕ
hexadecimal_text n = if n == 0 then 48 ∷ [] else map digit_text (digits_of 16 n)

-- the `-` of an int, and the digits of its size; `%x` prints the 32 bits as a number from 0 on
abbrev pub sign_text : Base → ℤ → List ℕ
sign_text Decimal (negsuc n) = 45 ∷ []
sign_text base v = []

-- the digits of an int
abbrev pub size_text : Base → ℤ → List ℕ
size_text Decimal (pos n) = decimal_text n
size_text Decimal (negsuc n) = decimal_text (suc n)
size_text Hexadecimal v = hexadecimal_text (cast_unsigned w32 v)

-- what is missing to the width
abbrev pub padded : Filling → ℕ → List ℕ → List ℕ → List ℕ
padded Blanks missing sign size = replicate missing 32 ++ (sign ++ size)
padded Left missing sign size = (sign ++ size) ++ replicate missing 32
padded Zeros missing sign size = sign ++ (replicate missing 48 ++ size)

-- an int in its width
abbrev pub int_text : Filling → ℕ → Base → ℤ → List ℕ
int_text filling width base v =
    padded filling (width - length (sign_text base v ++ size_text base v)) (sign_text base v) (size_text base v)

-- a format and its ints
abbrev pub text_of : List FormatPiece → List ℤ → List ℕ
text_of [] vs = []
text_of (Byte byte ∷ pieces) vs = byte ∷ text_of pieces vs
text_of (Int filling width base ∷ pieces) [] = text_of pieces []
text_of (Int filling width base ∷ pieces) (v ∷ vs) = int_text filling width base v ++ text_of pieces vs
