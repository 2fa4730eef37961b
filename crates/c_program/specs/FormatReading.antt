-- The pieces of a format, byte by byte: `format_pieces` finds those that its bytes spell.
use Rattle.std.specs.Prelude.{◌+◌, ◌-◌, ◌*◌, ◌==◌, ◌&&◌, ◌||◌, ℕ, nat_le, nat_lt, if◌then◌else◌, List, [], ◌∷◌, Option, Some, None, option_map}
use Rattle.c_program.specs.Formats.{escaped}
use Rattle.c_program.specs.declared.format.Base.TheVariants.{Decimal, Hexadecimal}
use Rattle.c_program.specs.declared.format.Before.{Before}
use Rattle.c_program.specs.declared.format.Before.TheVariants.{Pieces, Escape, Percent, Filled, Wide}
use Rattle.c_program.specs.declared.format.Filling.{Filling}
use Rattle.c_program.specs.declared.format.Filling.TheVariants.{Blanks, Left, Zeros}
use Rattle.c_program.specs.declared.format.FormatPiece.{FormatPiece}
use Rattle.c_program.specs.declared.format.FormatPiece.TheVariants.{Byte, Int}
use Rattle.c_program.specs.declared.format.FormatStep.{FormatStep}

-- a byte at which no piece ends
abbrev pub on : Before → Option FormatStep
on before = Some (record { before = before; piece = None })

-- a byte that ends a piece
abbrev pub end : FormatPiece → Option FormatStep
end piece = Some (record { before = Pieces; piece = Some piece })

-- a byte that ends a conversion: `d` and `i` in base ten, `x` in base sixteen
abbrev pub converts : Filling → ℕ → ℕ → Option FormatStep
converts filling width byte =
    if (byte == 100) || (byte == 105) then end (Int filling width Decimal)
    else (if byte == 120 then end (Int filling width Hexadecimal)
    else None)

-- the first digit of a width is not 0
abbrev pub begins_width : Filling → ℕ → Option FormatStep
begins_width filling byte =
    if nat_le 49 byte && nat_le byte 57 then on (Wide filling (byte - 48)) else converts filling 0 byte

-- what a byte does to a format, by what stands before it
abbrev pub step_of : Before → ℕ → Option FormatStep
step_of Pieces byte = if byte == 92 then on Escape else (if byte == 37 then on Percent else end (Byte byte))
step_of Escape byte = option_map (λ byte. record { before = Pieces; piece = Some (Byte byte) }) (escaped byte)
step_of Percent byte =
    if byte == 37 then end (Byte 37)
    else (if byte == 45 then on (Filled Left)
    else (if byte == 48 then on (Filled Zeros)
    else begins_width Blanks byte))
step_of (Filled filling) byte = begins_width filling byte
step_of (Wide filling width) byte =
    if nat_lt width 10 && (nat_le 48 byte && nat_le byte 57) then on (Wide filling (width * 10 + (byte - 48)))
    else converts filling width byte

-- one piece more before the others
abbrev pub with_piece : Option FormatPiece → List FormatPiece → List FormatPiece
with_piece None pieces = pieces
with_piece (Some piece) pieces = piece ∷ pieces

-- what a byte adds to the pieces after it
abbrev pub goes_on : Option FormatStep → (Before → Option (List FormatPiece)) → Option (List FormatPiece)
goes_on None behind = None
goes_on (Some step) behind = option_map (with_piece step.piece) (behind step.before)

-- the pieces of a format, or nothing if the bytes are no format
abbrev pub pieces_from : Before → List ℕ → Option (List FormatPiece)
pieces_from Pieces [] = Some []
pieces_from before [] = None
pieces_from before (byte ∷ bytes) = goes_on (step_of before byte) (λ before. pieces_from before bytes)

-- the pieces of a format, or nothing where its bytes spell none
abbrev pub format_pieces : List ℕ → Option (List FormatPiece)
format_pieces bytes = pieces_from Pieces bytes
