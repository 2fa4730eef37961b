-- What one byte of a format adds.
use Rattle.std.proofs.Common.{◌≡◌, ◌≢◌, ◌<◌, ◌+◌, ◌++◌, ◌∷◌, [], ℕ, List, length, Option, Some, None, option_map, refl, ◌∙◌, ap, arith, append_assoc, option_to_list}
use Rattle.std.proofs.lemmas.List.{append-nil}
use Rattle.c_program.specs.declared.format.Before.{Before}
use Rattle.c_program.specs.declared.format.Before.TheVariants.{Pieces, Escape, Percent, Filled, Wide}
use Rattle.c_program.specs.declared.format.FormatPiece.{FormatPiece}
use Rattle.c_program.specs.declared.format.FormatPiece.TheVariants.{Byte, Int}
use Rattle.c_program.specs.Formats.{ints_taken, ints_taken_by}
use Rattle.c_program.specs.FormatReading.{pieces_from, format_pieces, with_piece}

pub counted : (count : ℕ) (piece : Option FormatPiece) (behind : Option (List FormatPiece))
    → option_map (λ n. count + n) (option_map ints_taken (option_map (with_piece piece) behind))
    ≡ option_map (λ n. (count + ints_taken_by piece) + n) (option_map ints_taken behind)
counted count piece None = refl
counted count None (Some pieces) = ap Some (omega arith)
counted count (Some (Byte byte)) (Some pieces) = ap Some (omega arith)
counted count (Some (Int filling width base)) (Some pieces) = ap Some (omega arith)

pub appended : (found : List FormatPiece) (piece : Option FormatPiece) (behind : Option (List FormatPiece))
    → option_map (λ pieces. found ++ pieces) (option_map (with_piece piece) behind)
    ≡ option_map (λ pieces. (found ++ option_to_list piece) ++ pieces) behind
appended found piece None = refl
appended found None (Some pieces) = ap Some (simp append_assoc)
appended found (Some piece) (Some pieces) = ap Some (simp append_assoc)

-- the bytes end after a whole piece
pub finished : (bytes left : List ℕ) (found : List FormatPiece) (before : Before) → length left < 1 → before ≡ Pieces
    → format_pieces bytes ≡ option_map (λ pieces. found ++ pieces) (pieces_from before left) → format_pieces bytes ≡ Some found
finished bytes [] found Pieces h b e = e ∙ ap Some (append-nil found)
finished bytes [] found Escape h b e = cc
finished bytes [] found Percent h b e = cc
finished bytes [] found (Filled filling) h b e = cc
finished bytes [] found (Wide filling width) h b e = cc
finished bytes (x ∷ xs) found before h b e = absurd (omega arith)

-- the bytes end within a piece
pub cut_off : (bytes left : List ℕ) (found : List FormatPiece) (before : Before) → length left < 1 → before ≢ Pieces
    → format_pieces bytes ≡ option_map (λ pieces. found ++ pieces) (pieces_from before left) → format_pieces bytes ≡ None
cut_off bytes [] found Pieces h n e = absurd (n refl)
cut_off bytes [] found Escape h n e = e
cut_off bytes [] found Percent h n e = e
cut_off bytes [] found (Filled filling) h n e = e
cut_off bytes [] found (Wide filling width) h n e = e
cut_off bytes (x ∷ xs) found before h n e = absurd (omega arith)
