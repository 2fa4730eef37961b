-- The collectives of one communicator: its instances in order, each with its Enters. A rank's Enters on a communicator go
-- to instance 0, 1, 2 and so on. (MPI 3.1, Collective Communication, "Correctness".)
use Rattle.std.specs.Prelude.{◌≡◌, ℕ, List, [], ◌∷◌, ◌++◌, length, filter, ◌==◌, if◌then◌else◌, Option, Some, None, nat_lt, slice_index}
use Rattle.std.specs.List.{slice_index_or}
use Rattle.mpi_call.specs.declared.call.Call.{Call}
use Rattle.collectives.specs.Entrants.{AllAgree, has_entered, first_against, without_rank}
use Rattle.collectives.specs.declared.entrants.Entrant.{Entrant}
use Rattle.collectives.specs.declared.instances.Entered.{Entered}
use Rattle.collectives.specs.declared.instances.Entered.TheVariants.{Joined, Disagrees}

-- the Enters of an instance
abbrev pub instance_enters : List (List Entrant) → ℕ → List Entrant
instance_enters instances instance = slice_index_or instances instance []

-- how many Enters a rank has made: the instance of its next one
abbrev pub enters_by : List (List Entrant) → ℕ → ℕ
enters_by instances rank = length (filter (λ entrants. has_entered entrants rank) instances)

-- the Enter joins this instance, or disagrees with that rank
abbrev pub joins_unless : ℕ → Option ℕ → Entered
joins_unless instance None = Joined instance
joins_unless instance (Some other) = Disagrees other

-- the answer to an Enter: it joins the rank's next instance, unless an earlier Enter of that instance does not agree
abbrev pub instance_answer : List (List Entrant) → ℕ → Call → Entered
instance_answer instances rank call = joins_unless (enters_by instances rank) (first_against (instance_enters instances (enters_by instances rank)) call)

-- one Enter is added to an instance, after those before it
pub record Gains (old new : List (List Entrant)) (instance : ℕ) (entrant : Entrant) : Type 0 where
  pub at : (number : ℕ) → instance_enters new number
      ≡ (if number == instance then instance_enters old number ++ entrant ∷ [] else instance_enters old number)

-- and one rank's Enter is taken out of it
pub record Loses (old new : List (List Entrant)) (instance rank : ℕ) : Type 0 where
  pub at : (number : ℕ) → instance_enters new number
      ≡ (if number == instance then without_rank rank (instance_enters old number) else instance_enters old number)

-- the instances after that answer
abbrev pub IsInstancesAfter : List (List Entrant) → List (List Entrant) → ℕ → Call → Entered → Type 0
IsInstancesAfter old new rank call (Joined instance) = Gains old new instance (record { rank = rank; call = call })
IsInstancesAfter old new rank call (Disagrees other) = new ≡ old

-- a count for each rank, of the instances that it has entered, which are the first ones; and the Enters of each agree
pub record AreInstancesKept (instances : List (List Entrant)) (counts : List ℕ) : Type 0 where
  pub counted : (rank number : ℕ) → has_entered (instance_enters instances number) rank ≡ nat_lt number (slice_index counts rank)
  pub agreed : (number : ℕ) → AllAgree (instance_enters instances number)

-- a rank has entered just the instances below its next one, and the Enters of each agree
pub record AreOrderly (instances : List (List Entrant)) (rank : ℕ) : Type 0 where
  pub counted : (number : ℕ) → has_entered (instance_enters instances number) rank ≡ nat_lt number (enters_by instances rank)
  pub agreed : (number : ℕ) → AllAgree (instance_enters instances number)
