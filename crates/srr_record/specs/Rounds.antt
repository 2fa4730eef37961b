-- How a machine goes on as ranks attempt one after the other.
use Rattle.std.specs.Prelude.{◌≡◌, ◌≢◌, ◌<◌, ℕ, List, None}
use Rattle.run_model.specs.declared.event.Event.{Event}
use Rattle.run_model.specs.Lists.{IsPrefixOf}
use Rattle.run_model.specs.Serial.{Stage, attempts, call_after, rounds}
use Rattle.run_model.specs.Views.{Next, view_of}
use Rattle.picked_runs.specs.declared.turn.Turn.{Turn}
use Rattle.picked_runs.specs.Turns.{take_turns}
use Rattle.mpi_machine.specs.Turns.{MachineState, IsAtStage}

-- no rank makes a further call
abbrev pub HaveEnded : Next → ℕ → List Event → Type 0
HaveEnded next n events = (rank : ℕ) → rank < n → call_after next n events rank ≡ None

-- the later events go on with the earlier ones by events of one rank alone
pub record IsOnlyOf (rank : ℕ) (before after : List Event) : Type 0 where
  pub others : (other : ℕ) → other ≢ rank → view_of after other ≡ view_of before other

-- the machine went on by the attempts of these ranks in order
pub record GoesBy {P : Type 0} (next : Next) (turns : List ℕ) (before after : MachineState P) : Type 0 where
  pub program : after.program ≡ before.program
  pub ranks : after.ranks ≡ before.ranks
  pub longer : IsPrefixOf before.events after.events
  pub stands : (stage : Stage) → IsAtStage before stage → IsAtStage after (attempts next before.ranks stage turns)

-- the machine went on by these turns in order
pub record GoesByTurns {P : Type 0} (next : Next) (turns : List Turn) (before after : MachineState P) : Type 0 where
  pub program : after.program ≡ before.program
  pub ranks : after.ranks ≡ before.ranks
  pub longer : IsPrefixOf before.events after.events
  pub stands : (stage : Stage) → IsAtStage before stage → IsAtStage after (take_turns next before.ranks stage turns)

-- the machine went on by some rounds over all ranks
pub record GoesByRounds {P : Type 0} (next : Next) (before after : MachineState P) : Type 0 where
  pub program : after.program ≡ before.program
  pub ranks : after.ranks ≡ before.ranks
  pub longer : IsPrefixOf before.events after.events
  pub count : ℕ
  pub stands : (stage : Stage) → IsAtStage before stage → IsAtStage after (rounds next before.ranks count stage)

-- the events of rounds from a stage on, as many as it takes until no rank is live
pub record AreRecordedRounds (next : Next) (n : ℕ) (stage : Stage) (events : List Event) : Type 0 where
  pub count : ℕ
  pub made : (rounds next n count stage).events ≡ events
  pub ended : HaveEnded next n events
