-- The members of a communicator: a list of ranks of the world, in the order of their ranks in the communicator.
-- (MPI 3.1, Groups, Contexts, Communicators, and Caching, "Groups" and "Communicators".)
use Rattle.std.specs.Prelude.{ℕ, List, [], ◌∷◌, Bool, false, true, ◌==◌, if◌then◌else◌}
use Rattle.std.specs.List.{list_any, position_or_len}

-- a rank is among the members
abbrev pub is_member : List ℕ → ℕ → Bool
is_member members rank = list_any (λ member. member == rank) members

-- a member's rank in the communicator: how many members stand before it
abbrev pub place_of : List ℕ → ℕ → ℕ
place_of members rank = position_or_len (λ member. member == rank) members

-- no rank stands twice
abbrev pub is_distinct : List ℕ → Bool
is_distinct [] = true
is_distinct (member ∷ members) = if is_member members member then false else is_distinct members
