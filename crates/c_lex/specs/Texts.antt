-- Texts between marks on one line. (ISO C, "String literals".)
use Rattle.std.specs.Prelude.{◌≡◌, ◌≢◌, ◌<◌, ◌+◌, ◌==◌, ◌||◌, ℕ, Bool, nat_le, if◌then◌else◌, List, length, slice_index}
use Rattle.c_lex.specs.Bytes.{IsStretch}
use Rattle.c_lex.specs.declared.bytes.ByteClass.TheVariants.{Printable}

-- the line ends at this place
abbrev pub ends_line : List ℕ → ℕ → Bool
ends_line text at = nat_le (length text) at || (slice_index text at == 10)

-- how many bytes the character of a text at this place has, `\` and the next byte together; 0 where there is none
abbrev pub character_length : List ℕ → ℕ → ℕ
character_length text at =
    if ends_line text at || (slice_index text at == 34) then 0
    else (if slice_index text at == 92 then (if ends_line text (at + 1) then 0 else 2) else 1)

-- the characters from one place on end at another
pub data Inside (text : List ℕ) : ℕ → ℕ → Type 0 where
  ends : {at : ℕ} → character_length text at ≡ 0 → Inside text at at
  goes_on : {at end : ℕ} → 0 < character_length text at → Inside text (at + character_length text at) end → Inside text at end

-- a mark, characters of bytes 32 to 126 and the closing mark
pub record IsStringLiteral (text : List ℕ) (at close : ℕ) : Type 0 where
  pub inside : Inside text (at + 1) close
  pub closed : slice_index text close ≡ 34
  pub printable : IsStretch Printable text (at + 1) close close

-- the first other byte before the closing mark
pub record IsBadInside (text : List ℕ) (at place : ℕ) : Type 0 where
  pub close : ℕ
  pub inside : Inside text (at + 1) close
  pub closed : slice_index text close ≡ 34
  pub printable : IsStretch Printable text (at + 1) close place
  pub before : place < close

-- the line ends before the closing mark
pub record IsOpenText (text : List ℕ) (at : ℕ) : Type 0 where
  pub stop : ℕ
  pub inside : Inside text (at + 1) stop
  pub open_there : slice_index text stop ≢ 34
