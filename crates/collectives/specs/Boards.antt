-- The collectives of all communicators.
use Rattle.std.specs.Prelude.{◌≡◌, ℕ, List, [], ◌∷◌, ◌++◌, ◌&&◌, ◌==◌, if◌then◌else◌, map, nat_lt}
use Rattle.std.specs.List.{slice_index_or}
use Rattle.mpi_call.specs.Calls.{comm_of}
use Rattle.mpi_call.specs.declared.call.Call.{Call}
use Rattle.collectives.specs.Entrants.{AllAgree, has_entered, without_rank}
use Rattle.collectives.specs.Instances.{instance_answer, enters_by, instance_enters}
use Rattle.collectives.specs.declared.entrants.Entrant.{Entrant}
use Rattle.collectives.specs.declared.instances.Entered.{Entered}
use Rattle.collectives.specs.declared.instances.Entered.TheVariants.{Joined, Disagrees}

-- the instances of each communicator, by its number
abbrev pub Stages : Type 0
Stages = List (List (List Entrant))

-- the instances of a communicator
abbrev pub instances_on : Stages → ℕ → List (List Entrant)
instances_on stages comm = slice_index_or stages comm []

-- the Enters of an instance, in the order made
abbrev pub enters_of : Stages → ℕ → ℕ → List Entrant
enters_of stages comm instance = instance_enters (instances_on stages comm) instance

-- without the empty lists at the end
abbrev pub trim_before : {A : Type 0} → List A → List (List A) → List (List A)
trim_before [] [] = []
trim_before [] (list ∷ lists) = [] ∷ list ∷ lists
trim_before (a ∷ front) lists = (a ∷ front) ∷ lists

-- a list of lists without the empty ones at its end
abbrev pub trim : {A : Type 0} → List (List A) → List (List A)
trim [] = []
trim (list ∷ lists) = trim_before list (trim lists)

-- without the instances at the end that nobody has entered, and without the communicators at the end that have none
abbrev pub stages_of : Stages → Stages
stages_of stages = trim (map trim stages)

-- no communicator has empty instances at its end
abbrev pub IsTrimmed : Stages → Type 0
IsTrimmed stages = stages_of stages ≡ stages

-- how many Enters a rank has made on a communicator: the instance of its next one
abbrev pub enters_made : Stages → ℕ → ℕ → ℕ
enters_made stages comm rank = enters_by (instances_on stages comm) rank

-- a rank has entered just the instances below its next one, and the Enters of each instance agree
pub record IsOrderly (stages : Stages) (comm rank : ℕ) : Type 0 where
  pub counted : (number : ℕ) → has_entered (enters_of stages comm number) rank ≡ nat_lt number (enters_made stages comm rank)
  pub agreed : (number : ℕ) → AllAgree (enters_of stages comm number)

-- what `enter` answers
abbrev pub board_answer : Stages → ℕ → Call → Entered
board_answer stages rank call = instance_answer (instances_on stages (comm_of call)) rank call

-- one Enter is added to an instance of a communicator, after those before it
pub record GainsEnter (old new : Stages) (comm instance : ℕ) (entrant : Entrant) : Type 0 where
  pub at : (other number : ℕ) → enters_of new other number
      ≡ (if other == comm && number == instance then enters_of old other number ++ entrant ∷ [] else enters_of old other number)

-- and one rank's Enter is taken out of it
pub record LosesEnter (old new : Stages) (comm instance rank : ℕ) : Type 0 where
  pub at : (other number : ℕ) → enters_of new other number
      ≡ (if other == comm && number == instance then without_rank rank (enters_of old other number) else enters_of old other number)

-- the board after that answer
abbrev pub IsBoardAfter : Stages → Stages → ℕ → Call → Entered → Type 0
IsBoardAfter old new rank call (Joined instance) = GainsEnter old new (comm_of call) instance (record { rank = rank; call = call })
IsBoardAfter old new rank call (Disagrees other) = new ≡ old
