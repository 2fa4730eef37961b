-- What begins at a place, which its first bytes tell. (ISO C, "Lexical elements".)
use Rattle.std.specs.Prelude.{◌==◌, ◌&&◌, ◌||◌, ◌+◌, ℕ, zero, suc, Bool, true, if◌then◌else◌, nat_le, nat_lt, List, length, slice_index}
use Rattle.c_lex.specs.Marks.{mark_length}
use Rattle.c_lex.specs.Bytes.{is_space, is_digit, is_letter}
use Rattle.c_lex.specs.declared.opening.Opening.{Opening}
use Rattle.c_lex.specs.declared.opening.Opening.TheVariants.{TextEnd, Newline, Space, LineComment, BlockComment, Directive, Word, Digits, Quote, Mark, Nothing}

-- whether there are only blanks before a place on its line
abbrev pub begins_line : List ℕ → ℕ → Bool
begins_line text zero = true
begins_line text (suc k) = (slice_index text k == 10) || (is_space (slice_index text k) && begins_line text k)

-- `first`: there are only blanks before the byte on its line; `mark`: a mark begins there
abbrev pub opening_of : Bool → Bool → ℕ → ℕ → Opening
opening_of first mark byte next =
    if byte == 10 then Newline
    else (if is_space byte then Space
    else (if (byte == 47) && (next == 47) then LineComment
    else (if (byte == 47) && (next == 42) then BlockComment
    else (if (byte == 35) && first then Directive
    else (if is_letter byte then Word
    else (if is_digit byte then Digits
    else (if byte == 34 then Quote
    else (if mark then Mark
    else Nothing))))))))

-- what begins at a place: the end of the text, or what its byte and the next one tell
abbrev pub opening : List ℕ → ℕ → Opening
opening text at =
    if nat_le (length text) at then TextEnd else opening_of (begins_line text at) (nat_lt 0 (mark_length text at)) (slice_index text at) (slice_index text (at + 1))
