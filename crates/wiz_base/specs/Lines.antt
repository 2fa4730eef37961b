-- Lines of a text: what is between newlines.
use Rattle.std.specs.Prelude.{◌≡◌, ◌≢◌, ℕ, ◌⊎◌, List, [], ◌∷◌, ◌++◌, ◌<◌, length, All, Option, Some, None}

-- no byte is a newline
abbrev pub HasNoNewline : List ℕ → Type 0
HasNoNewline bytes = All (λ byte. byte ≢ 10) bytes

-- the text is the line, its newline and the rest; or it has no newline, and all is left
abbrev pub IsEndedLine : List ℕ → Option (List ℕ) → List ℕ → Type 0
IsEndedLine text (Some line) rest = HasNoNewline line × (text ≡ line ++ 10 ∷ rest)
IsEndedLine text None rest = HasNoNewline text × (rest ≡ text)

-- the same, but a last piece without a newline is a line too, so that there is none if and only if no byte is left
abbrev pub IsLine : List ℕ → Option (List ℕ) → List ℕ → Type 0
IsLine text (Some line) rest = HasNoNewline line
    × ((text ≡ line ++ 10 ∷ rest) ⊎ ((text ≡ line) × (text ≢ []) × (rest ≡ [])))
IsLine text None rest = (text ≡ []) × (rest ≡ [])

-- the text is so many bytes and the rest; or it has fewer, and all is left
abbrev pub IsPrefixTaken : List ℕ → ℕ → Option (List ℕ) → List ℕ → Type 0
IsPrefixTaken text count (Some bytes) rest = (text ≡ bytes ++ rest) × (length bytes ≡ count)
IsPrefixTaken text count None rest = (length text < count) × (rest ≡ text)
