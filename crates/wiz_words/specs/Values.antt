-- What clap finds in the arguments, and the values that it gives.
use Rattle.std.specs.Prelude.{◌≡◌, ◌≢◌, ◌≤◌, ◌⊎◌, ℕ, List, [], ◌∷◌, ◌++◌, Bool, false, Option, Some, None, codes}
use Rattle.std.specs.Option.{option_map_or}
use Rattle.std.specs.Str.{bytes_eq}
use Rattle.clap.specs.Words.{App, Row, Text, fault_of, first_of, found_of, matches_of, rows_of}
use Rattle.clap.specs.declared.parser.matches.ArgMatches.{ArgMatches}
use Rattle.wiz_base.specs.Decimals.{decimal_text}
use Rattle.wiz_words.specs.declared.limits.TheConstants.{GREATEST_CALL, GREATEST_RANK, GREATEST_START}

-- what was found, a row an argument
abbrev pub rows_found : ArgMatches → List Row
rows_found matches = rows_of (found_of matches)

-- what clap finds in the arguments; nothing, where the form refuses them
abbrev pub AreMatchesOf : App → List Text → Option ArgMatches → Type 0
AreMatchesOf form words None = fault_of form words ≢ []
AreMatchesOf form words (Some matches) = (fault_of form words ≡ []) × (rows_found matches ≡ matches_of form words)

-- the value of an argument, where one is given
abbrev pub value_in : List Row → Text → Option Text
value_in given name = first_of name given

-- a flag has the value `true` where it is given, and else `false`
abbrev pub flag_in : List Row → Text → Bool
flag_in given name = option_map_or (λ text. bytes_eq text (codes "true")) (value_in given name) false

-- the value of an argument is a number from `least` to `most`, in decimal without a leading zero
pub record IsNumberIn (given : List Row) (name : Text) (least most number : ℕ) : Type 0 where
  pub spelled : value_in given name ≡ Some (decimal_text number)
  pub from : least ≤ number
  pub to : number ≤ most

-- the value of an argument is such a number where it has one, and else this one is meant
abbrev pub IsNumberOr : List Row → Text → ℕ → ℕ → ℕ → ℕ → Type 0
IsNumberOr given name least most usual number =
    IsNumberIn given name least most number ⊎ ((value_in given name ≡ None) × (number ≡ usual))

-- R:C, a rank and the number of a call, each a number as above
pub record IsBreakpointText (text : Text) (stop : ℕ × ℕ) : Type 0 where
  pub spelled : text ≡ decimal_text stop.0 ++ 58 ∷ decimal_text stop.1
  pub rank : stop.0 ≤ GREATEST_RANK
  pub call : stop.1 ≤ GREATEST_CALL

-- a breakpoint where `--break` has a value, and then the one that it spells
abbrev pub IsBreakpoint : Option Text → Option (ℕ × ℕ) → Type 0
IsBreakpoint None stop = stop ≡ None
IsBreakpoint (Some text) None = ⊥
IsBreakpoint (Some text) (Some stop) = IsBreakpointText text stop

-- S.K, the name of a message: its sender and its number among the sender's starts, each a number as above
pub record IsNameText (text : Text) (name : ℕ × ℕ) : Type 0 where
  pub spelled : text ≡ decimal_text name.0 ++ 46 ∷ decimal_text name.1
  pub rank : name.0 ≤ GREATEST_RANK
  pub start : name.1 ≤ GREATEST_START

-- the value of an argument is the name of a message
pub record IsNameIn (given : List Row) (argument : Text) (name : ℕ × ℕ) : Type 0 where
  pub text : Text
  pub given_is : value_in given argument ≡ Some text
  pub is_name : IsNameText text name
