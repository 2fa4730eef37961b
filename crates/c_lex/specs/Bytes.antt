-- Kinds of bytes. (ISO C, "Character sets".)
use Rattle.std.specs.Prelude.{◌≡◌, ◌≤◌, ◌<◌, ◌==◌, ◌&&◌, ◌||◌, ℕ, Bool, true, false, not, nat_le, List, slice_index}
use Rattle.c_lex.specs.declared.bytes.ByteClass.{ByteClass}
use Rattle.c_lex.specs.declared.bytes.ByteClass.TheVariants.{Space, InLine, InWord, Printable}

-- a blank that ends no line: a tab, a carriage return or a space
abbrev pub is_space : ℕ → Bool
is_space byte = (byte == 9) || ((byte == 13) || (byte == 32))

-- a decimal digit
abbrev pub is_digit : ℕ → Bool
is_digit byte = nat_le 48 byte && nat_le byte 57

-- a letter or `_`
abbrev pub is_letter : ℕ → Bool
is_letter byte = ((nat_le 65 byte && nat_le byte 90) || (nat_le 97 byte && nat_le byte 122)) || (byte == 95)

-- the byte is of this kind
abbrev pub is_in_class : ByteClass → ℕ → Bool
is_in_class Space byte = is_space byte
is_in_class InLine byte = not (byte == 10)
is_in_class InWord byte = is_letter byte || is_digit byte
is_in_class Printable byte = nat_le 32 byte && nat_le byte 126

-- the bytes of one kind from a place on, as far as they go, but not past the limit
pub record IsStretch (class : ByteClass) (text : List ℕ) (from limit end : ℕ) : Type 0 where
  pub low : from ≤ end
  pub high : end ≤ limit
  pub each : (k : ℕ) → from ≤ k → k < end → is_in_class class (slice_index text k) ≡ true
  pub longest : end < limit → is_in_class class (slice_index text end) ≡ false
