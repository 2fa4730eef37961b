-- Calls that are counted, and those of them that are to fail.
use Rattle.std.specs.Prelude.{ℕ, List, [], ◌∷◌, ◌++◌, ◌+◌, ◌-◌, ◌^◌, min, Contains}

-- a count raised by one, but for its last value, where it stands still
abbrev pub raised_once : ℕ → ℕ
raised_once count = min (count + 1) (2 ^ 64 - 1)

-- the numbers of the calls that are to fail, and how many calls there were
pub record Calls : Type 0 where
  pub failing : List ℕ
  pub made : ℕ

-- one call more has been made
abbrev pub with_one_more : Calls → Calls
with_one_more calls = record calls { made = raised_once calls.made }

-- one call more is to fail
abbrev pub with_failing : Calls → ℕ → Calls
with_failing calls call = record calls { failing = calls.failing ++ call ∷ [] }

-- none yet, and none to fail
abbrev pub no_calls : Calls
no_calls = record { failing = []; made = 0 }

-- the next call is one of those that are to fail
abbrev pub IsNextFailing : Calls → Type 0
IsNextFailing calls = Contains calls.failing calls.made
