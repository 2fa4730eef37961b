-- The instances of communicators by number, as they are kept: none where nobody has entered.
use Rattle.std.specs.Prelude.{◌≡◌, ◌+◌, ℕ, suc, List, [], ◌∷◌, ◌==◌, false, map, nat_eq, unwrap_or}
use Rattle.std.specs.List.{range_with_len}
use Rattle.std.specs.Map.{lookup}
use Rattle.collectives.specs.declared.entrants.Entrant.{Entrant}

-- the instances of communicators by number
abbrev pub InstancesByCommunicator : Type 0
InstancesByCommunicator = List (ℕ × List (List Entrant))

-- the instances of a communicator
abbrev pub instances_in : InstancesByCommunicator → ℕ → List (List Entrant)
instances_in table comm = unwrap_or (lookup (nat_eq comm) table) []

-- each communicator has the same instances
abbrev pub HaveSameInstances : InstancesByCommunicator → InstancesByCommunicator → Type 0
HaveSameInstances old new = (other : ℕ) → instances_in new other ≡ instances_in old other

-- each communicator but one has the same instances
abbrev pub HaveSameBeside : ℕ → InstancesByCommunicator → InstancesByCommunicator → Type 0
HaveSameBeside comm old new = (other : ℕ) → (comm == other) ≡ false → instances_in new other ≡ instances_in old other

-- a number above those of all communicators that are there
abbrev pub above_all : InstancesByCommunicator → ℕ
above_all [] = 0
above_all (entry ∷ entries) = suc (entry.0 + above_all entries)

-- the same as a list: the instances of the communicators 0, 1, 2 and so on
abbrev pub instance_lists : InstancesByCommunicator → List (List (List Entrant))
instance_lists table = map (instances_in table) (range_with_len 0 (above_all table))
