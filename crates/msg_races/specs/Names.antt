-- Names of starts, in order.
use Rattle.std.specs.Prelude.{◌≡◌, ◌<◌, ◌⊎◌, ◌+◌, ◌==◌, ℕ, Bool, List, [], ◌∷◌, length}
use Rattle.std.specs.Ordering.{eq_of_both, on}
use Rattle.mpi_call.specs.Lists.{IsIn}
use Rattle.msg_races.specs.declared.fault.TheConstants.{MOST_OTHERS}
use Rattle.msg_races.specs.declared.names.Name.{Name}
use Rattle.msg_races.specs.declared.receives.WildcardReceive.{WildcardReceive}

-- by rank, and then by start number
abbrev pub ComesBefore : Name → Name → Type 0
ComesBefore a b = (a.rank < b.rank) ⊎ ((a.rank ≡ b.rank) × (a.start < b.start))

-- the name of a receive
abbrev pub receive_name : WildcardReceive → Name
receive_name receive = record { rank = receive.rank; start = receive.start }

-- the name of each element comes before the names of those after it
abbrev pub AreSorted : {A : Type 0} → (A → Name) → List A → Type 0
AreSorted name [] = Unit {0}
AreSorted name (x ∷ xs) = ((later : _) → IsIn later xs → ComesBefore (name x) (name later)) × AreSorted name xs

-- how many others these receives have together
abbrev pub count_racing : List WildcardReceive → ℕ
count_racing [] = 0
count_racing (receive ∷ receives) = length receive.others + count_racing receives

-- the most others that are listed, of all receives together
abbrev pub most_racing : ℕ
most_racing = MOST_OTHERS

-- two names are the same
abbrev pub same_start : Name → Name → Bool
same_start = eq_of_both (on (λ (n : Name). n.rank) ◌==◌) (on (λ (n : Name). n.start) ◌==◌)
