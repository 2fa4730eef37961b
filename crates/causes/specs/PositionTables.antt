-- Lists of positions by keys, with a test of which keys are equal.
use Rattle.std.specs.Prelude.{◌≡◌, ℕ, List, [], ◌∷◌, ◌++◌, Option, Some, None, Bool, if◌then◌else◌}
use Rattle.std.specs.Map.{lookup}

-- no positions where there is no list
abbrev pub or_no_positions : Option (List ℕ) → List ℕ
or_no_positions None = []
or_no_positions (Some places) = places

-- the positions that a table has for a key
abbrev pub positions_by : {K : Type 0} → (K → K → Bool) → List (K × List ℕ) → K → List ℕ
positions_by same table key = or_no_positions (lookup (same key) table)

-- one position more for the keys that pass a test, and none more for another
abbrev pub AddsPositionBy : {K : Type 0} → (K → K → Bool) → (K → Bool) → ℕ → List (K × List ℕ) → List (K × List ℕ) → Type 0
AddsPositionBy same test at old new =
    (key : _) → positions_by same new key ≡ (if test key then positions_by same old key ++ at ∷ [] else positions_by same old key)
