-- The communicators of a run, by number; 0 is the world.
-- (MPI 3.1, Groups, Contexts, Communicators, and Caching, "Communicator Management".)
use Rattle.std.specs.Prelude.{◌≡◌, ℕ, ◌≤◌, ◌<◌, ℤ, List, [], ◌∷◌, ◌++◌, length, ◌&&◌, ◌==◌, if◌then◌else◌, Option, None, Some, option_map, replicate, slice_get, slice_index}
use Rattle.std.specs.List.{slice_index_or}
use Rattle.mpi_call.specs.Members.{place_of}
use Rattle.run_model.specs.Lists.{world}
use Rattle.comms.specs.Colours.{split_members, split_numbers}

-- the members of each communicator, and for each instance of a Split or Dup, by communicator and instance, the communicator
-- that each member got, in member order
pub record Communicators : Type 0 where
  pub members : List (List ℕ)
  pub given : List ((ℕ × ℕ) × List ℕ)

-- the world of n ranks alone
abbrev pub world_alone : ℕ → Communicators
world_alone n = record { members = world n 0 ∷ []; given = [] }

-- a communicator's members, if it was made
abbrev pub members_of : Communicators → ℕ → Option (List ℕ)
members_of communicators comm = slice_get communicators.members comm

-- what an instance gave to each member
abbrev pub given_in : List ((ℕ × ℕ) × List ℕ) → ℕ → ℕ → Option (List ℕ)
given_in [] comm instance = None
given_in (entry ∷ entries) comm instance = if entry.0.0 == comm && entry.0.1 == instance then Some entry.1 else given_in entries comm instance

-- the communicator that an instance gave to a rank, 0 for none, if it was a Split or Dup
abbrev pub number_given_to : Communicators → ℕ → ℕ → ℕ → Option ℕ
number_given_to communicators comm instance rank =
    option_map (λ numbers. slice_index numbers (place_of (slice_index_or communicators.members comm []) rank)) (given_in communicators.given comm instance)

-- an instance of a communicator made these communicators, which take the next numbers, and gave these numbers
pub record Makes (old new : Communicators) (comm instance : ℕ) (made : List (List ℕ)) (numbers : List ℕ) : Type 0 where
  pub members : new.members ≡ old.members ++ made
  pub given : (other number : ℕ) → given_in new.given other number
      ≡ (if other == comm && number == instance then Some numbers else given_in old.given other number)

-- the members of a communicator that was made
abbrev pub old_members : Communicators → ℕ → List ℕ
old_members old comm = slice_index_or old.members comm []

-- a Split makes a communicator for each colour, in the order of the colours
abbrev pub MakesByColour : Communicators → Communicators → ℕ → ℕ → List (List ℤ) → Type 0
MakesByColour old new comm instance inputs = Makes old new comm instance (split_members (old_members old comm) inputs) (split_numbers (length old.members) inputs)

-- a Dup makes one with the same members, and gives its number to each
abbrev pub IsDup : Communicators → Communicators → ℕ → ℕ → Type 0
IsDup old new comm instance = Makes old new comm instance (old_members old comm ∷ []) (replicate (length (old_members old comm)) (length old.members))

-- each communicator has at most 255 members
pub record HaveFewMembers (members : List (List ℕ)) : Type 0 where
  pub at : (comm : ℕ) → length (slice_index_or members comm []) ≤ 255

-- one colour and key for each member
pub record AreColoursOf (members : List ℕ) (inputs : List (List ℤ)) : Type 0 where
  pub as_many : length inputs ≡ length members
  pub pairs : (place : ℕ) → place < length members → length (slice_index_or inputs place []) ≡ 2
