-- A line of a text, and what is shown of it.
use Rattle.std.specs.Prelude.{◌≡◌, ◌++◌, ◌∷◌, ◌-◌, ◌⊎◌, ◌==◌, ◌&&◌, nat_le, ℕ, zero, suc, List, if◌then◌else◌, codes, map, replicate}
use Rattle.wiz_base.specs.Lines.{HasNoNewline}

-- the line of a text with this number, from 1: the first is what stands before the first newline, or all where there is none;
-- the others are those of the text behind the first newline
abbrev pub IsLineOf : List ℕ → ℕ → List ℕ → Type 0
IsLineOf text zero line = ⊥
IsLineOf text (suc zero) line = HasNoNewline line × ((text ≡ line) ⊎ ((rest : List ℕ) × (text ≡ line ++ 10 ∷ rest)))
IsLineOf text (suc (suc number)) line =
    (first : List ℕ) × (rest : List ℕ) × HasNoNewline first × (text ≡ first ++ 10 ∷ rest) × IsLineOf rest (suc number) line

-- what is shown of a byte: a blank for a tab, itself if it is printed, else a question mark
abbrev pub shown : ℕ → ℕ
shown byte = if byte == 9 then 32 else if nat_le 32 byte && nat_le byte 126 then byte else 63

-- a line of the text as it is shown, and under it a caret in the column
abbrev pub IsMarked : List ℕ → ℕ → ℕ → List ℕ → Type 0
IsMarked text number column marked =
    (line : List ℕ) × IsLineOf text number line
    × (marked ≡ map shown line ++ (codes "\n" ++ (replicate (column - 1) 32 ++ codes "^\n")))
