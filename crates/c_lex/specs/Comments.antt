-- Comments between marks. (ISO C, "Comments".)
use Rattle.std.specs.Prelude.{◌≡◌, ◌≤◌, ◌<◌, ◌+◌, ◌==◌, ◌&&◌, ℕ, Bool, true, false, List, length, slice_index}
use Rattle.c_lex.specs.Bytes.{IsStretch}
use Rattle.c_lex.specs.declared.bytes.ByteClass.TheVariants.{InLine}

-- `*/` is there
abbrev pub closes : List ℕ → ℕ → Bool
closes text k = (slice_index text k == 42) && (slice_index text (k + 1) == 47)

-- the first one from a place on
pub record IsFirstClose (text : List ℕ) (from close : ℕ) : Type 0 where
  pub low : from ≤ close
  pub high : close + 2 ≤ length text
  pub is : closes text close ≡ true
  pub first : (k : ℕ) → from ≤ k → k < close → closes text k ≡ false

-- no `*/` from a place on
abbrev pub NeverCloses : List ℕ → ℕ → Type 0
NeverCloses text from = (k : ℕ) → from ≤ k → k + 2 ≤ length text → closes text k ≡ false

-- from `/*` to the first `*/` after it; a comment on a line that is a define has no newline
pub record IsComment (text : List ℕ) (on_define : Bool) (at close : ℕ) : Type 0 where
  pub closed : IsFirstClose text (at + 2) close
  pub on_line : on_define ≡ true → IsStretch InLine text at close close

-- a comment with a newline in it
pub record IsSplitComment (text : List ℕ) (at : ℕ) : Type 0 where
  pub close : ℕ
  pub closed : IsFirstClose text (at + 2) close
  pub newline : ℕ
  pub run : IsStretch InLine text at close newline
  pub before : newline < close
