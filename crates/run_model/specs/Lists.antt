-- Words on lists: lists that grow at their end, prefixes, lists of ranks.
use Rattle.std.specs.Prelude.{◌≡◌, ◌+◌, ℕ, zero, suc, List, [], ◌∷◌, ◌++◌, Bool, true, false, ◌&&◌, ◌==◌, nat_lt}

-- each element of the second list is a step after the first list and those before it
abbrev pub Along : {E : Type 0} → (List E → E → Type 0) → List E → List E → Type 0
Along IsStep before [] = Unit {0}
Along IsStep before (event ∷ events) = IsStep before event × Along IsStep (before ++ event ∷ []) events

-- the first list begins the second
abbrev pub IsPrefixOf : {A : Type 0} → List A → List A → Type 0
IsPrefixOf xs ys = (rest : List _) × (xs ++ rest ≡ ys)

-- two lists of ranks are the same
abbrev pub same_ranks : List ℕ → List ℕ → Bool
same_ranks [] [] = true
same_ranks [] (y ∷ ys) = false
same_ranks (x ∷ xs) [] = false
same_ranks (x ∷ xs) (y ∷ ys) = (x == y) && same_ranks xs ys

-- each rank is below n
abbrev pub are_below : ℕ → List ℕ → Bool
are_below n [] = true
are_below n (m ∷ members) = nat_lt m n && are_below n members

-- the ranks from `from` on, n of them
abbrev pub world : ℕ → ℕ → List ℕ
world zero from = []
world (suc n) from = from ∷ world n (from + 1)
