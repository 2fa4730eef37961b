-- The entries of a locked value: pairs of a seat's number and what the seat added.
use Rattle.std.specs.Prelude.{◌≡◌, ℕ, ◌==◌, ◌⊎◌, List, [], ◌∷◌, ◌++◌, filter, length, drop}

module _ {E : Type 0} where
  -- the entries with the number k, in their order
  abbrev pub entries_of : ℕ → List (ℕ × E) → List (ℕ × E)
  entries_of k es = filter (λ e. e.0 == k) es

  -- the entries begin with those that were seen
  abbrev pub StartsWith : List (ℕ × E) → List (ℕ × E) → Type 0
  StartsWith es seen = (rest : List (ℕ × E)) × (es ≡ seen ++ rest)

  -- the same entries, or these and one more with the number k
  abbrev pub Grows : ℕ → List (ℕ × E) → List (ℕ × E) → Type 0
  Grows k before after = (after ≡ before) ⊎ ((e : E) × (after ≡ before ++ (k, e) ∷ []))

  -- what stands behind the entries of before
  abbrev pub appended : List (ℕ × E) → List (ℕ × E) → List (ℕ × E)
  appended before after = drop (length before) after
