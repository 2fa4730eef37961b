-- Words that are no names here, and the words of directives. (ISO C, "Keywords" and "Preprocessing directives".)
use Rattle.std.specs.Prelude.{◌≡◌, ◌==◌, ◌+◌, ℕ, Bool, if◌then◌else◌, List, [], ◌∷◌, length, slice_range, codes}
use Rattle.std.specs.List.{list_any}
use Rattle.std.specs.Str.{bytes_eq}
use Rattle.c_lex.specs.Bytes.{IsStretch}
use Rattle.c_lex.specs.declared.bytes.ByteClass.TheVariants.{Space, InWord}

-- the words that single blanks divide
abbrev pub onto_first : ℕ → List (List ℕ) → List (List ℕ)
onto_first byte [] = (byte ∷ []) ∷ []
onto_first byte (word ∷ words) = (byte ∷ word) ∷ words

-- the words of a text, by its single blanks
abbrev pub words : List ℕ → List (List ℕ)
words [] = [] ∷ []
words (byte ∷ bytes) = if byte == 32 then [] ∷ words bytes else onto_first byte (words bytes)

-- the keywords of C that this language leaves out
abbrev pub left_out_words : List (List ℕ)
left_out_words =
    words (codes "auto case const default double enum extern float goto inline long register restrict short signed sizeof static struct switch typedef union unsigned volatile")

-- the word is one of these keywords
abbrev pub is_left_out : List ℕ → Bool
is_left_out word = list_any (bytes_eq word) left_out_words

-- a `#`, blanks of its line and a word, as long as it can be; it may be empty
pub record IsDirective (text : List ℕ) (at end : ℕ) (word : List ℕ) : Type 0 where
  pub from : ℕ
  pub spaces : IsStretch Space text (at + 1) (length text) from
  pub run : IsStretch InWord text from (length text) end
  pub is : word ≡ slice_range text from end
