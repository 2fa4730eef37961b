-- The pieces of a line: what is between marks, and the number that a piece spells.
use Rattle.std.specs.Prelude.{◌≡◌, ℕ, ℤ, pos, negsuc, neg_ℤ, List, [], ◌∷◌, ◌++◌, Bool, ◌&&◌, ◌==◌, if◌then◌else◌, nat_le, nat_lt, Option, Some, None, Result, Ok, Err}
use Rattle.std.specs.Borrow.{Bor}
use Rattle.std.specs.List.{slice_split}
use Rattle.std.specs.Str.{bytes_eq}
use Rattle.std.specs.Str.Parse.{digits_value}
use Rattle.wiz_base.specs.Decimals.{decimal_text, number_text}
use Rattle.srr_log.specs.declared.read_error.Unread.{Unread}
use Rattle.srr_log.specs.declared.read_error.Unread.TheVariants.{NotAllowed, NoMemory}

infixl 10 ◌>>=◌
-- one reading after another, where the first reads something
abbrev pub ◌>>=◌ : {A B : Type 0} → Option A → (A → Option B) → Option B
(Some value) >>= f = f value
None >>= f = None

-- what a function read is what the piece says, unless memory ran out
abbrev pub GivesPiece : {A : Type 0} → Result A Unread → Option A → Type 0
GivesPiece (Ok value) said = said ≡ Some value
GivesPiece (Err NotAllowed) said = said ≡ None
GivesPiece (Err NoMemory) said = Unit {0}

-- code gives the text that is said, or nothing where none is
abbrev pub GivesText : Option (Bor (List ℕ)) → Option (List ℕ) → Type 0
GivesText (Some rest) said = said ≡ Some rest.now
GivesText None said = said ≡ None

-- code gives the two texts that are said, or nothing where none are
abbrev pub GivesSplit : Option (Bor (List ℕ) × Bor (List ℕ)) → Option (List ℕ × List ℕ) → Type 0
GivesSplit (Some parts) said = said ≡ Some (parts.0.now, parts.1.now)
GivesSplit None said = said ≡ None

-- what comes after a word
unfoldable pub after_word : List ℕ → List ℕ → Option (List ℕ)
after_word [] text = Some text
after_word (byte ∷ word) [] = None
after_word (byte ∷ word) (first ∷ text) = if byte == first then after_word word text else None

-- a byte more before the first of two texts
abbrev pub with_byte : ℕ → Option (List ℕ × List ℕ) → Option (List ℕ × List ℕ)
with_byte byte (Some parts) = Some (byte ∷ parts.0, parts.1)
with_byte byte None = None

-- what comes before the first such mark, and what comes after it
unfoldable pub split_once : ℕ → List ℕ → Option (List ℕ × List ℕ)
split_once mark [] = None
split_once mark (byte ∷ text) = if byte == mark then Some ([], text) else with_byte byte (split_once mark text)

-- the pieces between such marks
abbrev pub pieces : ℕ → List ℕ → List (List ℕ)
pieces mark text = slice_split (λ byte. byte == mark) text

-- what the pieces say, if each says something
abbrev pub all_of : {A : Type 0} → (List ℕ → Option A) → List (List ℕ) → Option (List A)
all_of one [] = Some []
all_of one (piece ∷ others) = do
  value ← one piece
  values ← all_of one others
  Some (value ∷ values)

-- the number from 0 to `most` that the piece spells
unfoldable pub number_in : ℕ → List ℕ → Option ℕ
number_in most text =
    if bytes_eq text (decimal_text (digits_value 10 text)) && nat_le (digits_value 10 text) most then Some (digits_value 10 text) else None

-- the value of digits, which may have a minus before them
abbrev pub signed_value : List ℕ → ℤ
signed_value [] = pos 0
signed_value (byte ∷ text) = if byte == 45 then neg_ℤ (pos (digits_value 10 text)) else pos (digits_value 10 (byte ∷ text))

-- a value that an int of 32 bits can have
abbrev pub is_int : ℤ → Bool
is_int (pos n) = nat_lt n 2147483648
is_int (negsuc n) = nat_lt n 2147483648

-- the number of 32 bits that the piece spells
unfoldable pub int_in : List ℕ → Option ℤ
int_in text = if bytes_eq text (number_text (signed_value text)) && is_int (signed_value text) then Some (signed_value text) else None

-- the rank below n
unfoldable pub rank_in : ℕ → List ℕ → Option ℕ
rank_in n text = do
  rank ← number_in 255 text
  if nat_lt rank n then Some rank else None

-- one more at the end, where the piece says something
abbrev pub Adds : {A : Type 0} → List A → List A → Result (Unit {0}) Unread → Option A → Type 0
Adds before now (Ok done) said = (value : _) × (said ≡ Some value) × (now ≡ before ++ value ∷ [])
Adds before now (Err NotAllowed) said = said ≡ None
Adds before now (Err NoMemory) said = Unit {0}
