-- The marks of C. (ISO C, "Punctuators".)
use Rattle.std.specs.Prelude.{ℕ, if◌then◌else◌, nat_eq, List, [], ◌∷◌, length, drop, codes}
use Rattle.std.specs.List.{starts_with}
use Rattle.c_lex.specs.Words.{words}

-- the longest first
unfoldable pub marks : List (List ℕ)
marks =
    words (codes "<<= >>= == != <= >= << >> && || ++ -- += -= *= /= %= &= |= ^= ( ) { } [ ] ; , . ? : = < > + - * / % ! ~ & | ^")

-- how many bytes the first of these has with which the text goes on; 0 where it goes on with none
abbrev pub first_length : List (List ℕ) → List ℕ → ℕ
first_length [] rest = 0
first_length (mark ∷ others) rest = if starts_with nat_eq rest mark then length mark else first_length others rest

-- the longest mark that begins at a place
unfoldable pub mark_length : List ℕ → ℕ → ℕ
mark_length text at = first_length marks (drop at text)
