-- What is added to what a search has met.
use Rattle.std.specs.Prelude.{◌≡◌, ◌⊎◌, ℤ, List, [], ◌∷◌, ◌++◌}
use Rattle.mpi_call.specs.Lists.{IsIn}
use Rattle.picked_runs.specs.declared.turn.Turn.{Turn}
use Rattle.explore.specs.declared.found.FoundOutcome.{FoundOutcome}
use Rattle.explore.specs.declared.met.Met.{Met}
use Rattle.explore.specs.Explored.{IsListed}

-- a state is added with its code, where that is new
abbrev pub IsStateAdded : Met → Met → List ℤ → List Turn → Type 0
IsStateAdded met met' code turns =
    (met' ≡ record met { states = met.states ++ turns ∷ []; codes = met.codes ++ code ∷ [] }) ⊎ (IsIn code met.codes × (met' ≡ met))

-- what was found is added, where its outcome is new
abbrev pub IsFoundAdded : Met → Met → FoundOutcome → Type 0
IsFoundAdded met met' found =
    ((IsListed met.found found.outcome → ⊥) × (met' ≡ record met { found = met.found ++ found ∷ [] })) ⊎ (IsListed met.found found.outcome × (met' ≡ met))
