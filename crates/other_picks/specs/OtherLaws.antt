-- What holds of the other picks of a run.
use Rattle.std.specs.Prelude.{◌≡◌, ◌≢◌, ℕ, List, [], ◌∷◌, ◌++◌, Some, slice_get, take}
use Rattle.std.specs.List.{AllByRecursion}
use Rattle.mpi_call.specs.Lists.{IsIn}
use Rattle.run_model.specs.declared.event.Event.{Event}
use Rattle.run_model.specs.Chosen.{order_of}
use Rattle.run_model.specs.Lists.{IsPrefixOf}
use Rattle.run_model.specs.Views.{Next}
use Rattle.picked_runs.specs.declared.turn.Pick.{Pick}
use Rattle.picked_runs.specs.declared.turn.Pick.TheVariants.{Sender}
use Rattle.picked_runs.specs.declared.turn.Turn.{Turn}
use Rattle.picked_runs.specs.Picks.{picked_event}
use Rattle.picked_runs.specs.Picked.{IsPicked}
use Rattle.picked_runs.specs.Turns.{IsRunByTurns, IsTurnOf, turns_of}
use Rattle.other_picks.specs.declared.other.OtherPick.{OtherPick}
use Rattle.other_picks.specs.Others.{others_of}

-- its turns: those of the run up to the receive, by what the run picked, and then one in which the receive picks the sender
abbrev pub turns_to : List Event → List Pick → OtherPick → List Turn
turns_to run picks other =
    turns_of (order_of (take other.at run)) picks ++ (record { rank = other.rank; pick = Sender other.sender }) ∷ []

-- the receive of an other pick, as it picks the other sender
abbrev pub picked_otherwise : ℕ → List Event → OtherPick → Event → Event
picked_otherwise n run other receive = picked_event n (take other.at run) receive.rank receive.call (Sender other.sender)

-- what its turns record begins with the events of the run before the receive, and then the receive with another mate than in the run
pub record IsTakenOtherwise (next : Next) (n : ℕ) (picks : List Pick) (run : List Event) (other : OtherPick) : Type 0 where
  pub receive : Event
  pub there : slice_get run other.at ≡ Some receive
  pub rank : receive.rank ≡ other.rank
  pub differs : (picked_otherwise n run other receive).mate ≢ receive.mate
  pub begins : (events : List Event) → IsRunByTurns next n (turns_to run picks other) events
      → IsPrefixOf (take other.at run ++ picked_otherwise n run other receive ∷ []) events

-- so it is of each other pick of a run
abbrev pub OthersAreTaken : Next → ℕ → Type 0
OthersAreTaken next n =
    (picks : List Pick) (run : List Event) → IsPicked next n picks run
    → (other : OtherPick) → IsIn other (others_of n run) → IsTakenOtherwise next n picks run other

-- its turns are turns of n ranks
abbrev pub OthersAreTurns : Next → ℕ → Type 0
OthersAreTurns next n =
    (picks : List Pick) (run : List Event) → IsPicked next n picks run
    → (other : OtherPick) → IsIn other (others_of n run) → AllByRecursion (IsTurnOf n) (turns_to run picks other)
