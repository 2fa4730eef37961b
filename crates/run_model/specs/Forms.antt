-- What the views of lawful programs keep: what a rank knows of its communicators, and its Enters on them.
use Rattle.std.specs.Prelude.{◌≡◌, ◌<◌, ◌≤◌, ℕ, ℤ, List, Some, Bool, true, length}
use Rattle.mpi_call.specs.declared.call.Call.{Call}
use Rattle.mpi_call.specs.declared.call.Call.TheVariants.{Send}
use Rattle.mpi_call.specs.Collectives.{is_distinct, is_member, IsEnterOf}
use Rattle.mpi_call.specs.declared.limits.TheConstants.{MOST_INTS}
use Rattle.mpi_call.specs.Calls.{comm_of, is_enter}
use Rattle.run_model.specs.Lists.{are_below}
use Rattle.run_model.specs.Communicators.{Entered, enter_at, known_in}
use Rattle.run_model.specs.Program.{IsInForm}
use Rattle.run_model.specs.declared.event.Event.{Event}
use Rattle.run_model.specs.Views.{View, start_at, view_of}

-- the members of a communicator of rank `me`: ranks below n, none twice, `me` among them
pub record AreMembers (n me : ℕ) (members : List ℕ) : Type 0 where
  pub below : are_below n members ≡ true
  pub distinct : is_distinct members ≡ true
  pub has_me : is_member members me ≡ true

-- an Enter that was made on a communicator known by then
pub record IsEnteredBy (n me : ℕ) (own : View) (comm : ℕ) (entered : Entered) : Type 0 where
  pub members : List ℕ
  pub known : entered.members ≡ Some members
  pub stays : known_in n own comm ≡ Some members
  pub form : IsEnterOf entered.call members me
  pub on : comm_of entered.call ≡ comm
  pub enter : is_enter entered.call ≡ true

-- a rank's view is in order
pub record IsInOrder (n me : ℕ) (own : View) : Type 0 where
  pub starts : (k : ℕ) (call : Call) → start_at own k ≡ Some call → IsInForm n me own call
  pub known : (comm : ℕ) (members : List ℕ) → known_in n own comm ≡ Some members → AreMembers n me members
  pub entered : (comm instance : ℕ) (one : Entered) → enter_at n own comm instance ≡ Some one → IsEnteredBy n me own comm one

-- each rank's view is in order, and no message is too long
pub record AreInOrder (n : ℕ) (events : List Event) : Type 0 where
  pub ranks : (rank : ℕ) → rank < n → IsInOrder n rank (view_of events rank)
  pub sends : (rank k comm dest tag : ℕ) (ints : List ℤ) (sync : Bool) → start_at (view_of events rank) k ≡ Some (Send comm dest tag ints sync) → length ints ≤ MOST_INTS
