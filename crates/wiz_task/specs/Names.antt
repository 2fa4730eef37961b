-- Names of what definitions speak of.
use Rattle.std.specs.Prelude.{ℕ, List}

-- the groups of a plan, each with its ranks
abbrev pub Plan : Type 0
Plan = List (List ℕ)
