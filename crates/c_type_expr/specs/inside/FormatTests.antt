-- Whether a text is a format.
use Rattle.std.specs.Prelude.{◌==◌, ℕ, Bool, false, List, Option, Some, None}
use Rattle.c_program.specs.Formats.{ints_taken}
use Rattle.c_program.specs.declared.format.FormatPiece.{FormatPiece}

-- whether a format takes so many ints; what is no format takes none
abbrev pub takes_ints : ℕ → Option (List FormatPiece) → Bool
takes_ints count None = false
takes_ints count (Some format) = ints_taken format == count
