-- A machine and the ranks beside it, and what a recording comes to.
use Rattle.std.specs.Prelude.{◌≡◌, ◌≢◌, ◌⊎◌, ℕ, List, [], ◌∷◌, ◌++◌, Some, true, false, map}
use Rattle.std.specs.List.{slice_index_or}
use Rattle.mpi_call.specs.declared.call.Call.{Call}
use Rattle.run_model.specs.declared.ending.Ending.{Ending}
use Rattle.run_model.specs.declared.event.Event.{Event}
use Rattle.run_model.specs.Allowed.{IsStuck, can_go}
use Rattle.run_model.specs.Program.{Standing}
use Rattle.run_model.specs.Serial.{call_after}
use Rattle.run_model.specs.Views.{Next, view_of}
use Rattle.picked_runs.specs.declared.turn.Pick.{Pick}
use Rattle.picked_runs.specs.declared.turn.Pick.TheVariants.{First}
use Rattle.picked_runs.specs.declared.turn.Turn.{Turn}
use Rattle.picked_runs.specs.Picked.{IsPicked}
use Rattle.picked_runs.specs.Picks.{has_pick, picked_event}
use Rattle.picked_runs.specs.Turns.{IsRunByTurns}
use Rattle.mpi_machine.specs.Turns.{MachineState}
use Rattle.srr_entry.specs.Outputs.{Output}
use Rattle.srr_record.specs.Recordings.{AreRuns}
use Rattle.run_states.specs.Outcomes.{RunOutcome, reported_ending, outcome_of_run, reported_ranks}
use Rattle.quiet_calls.specs.Quiet.{Races, is_quiet}

-- what starts the ranks runs this program, and a plan of all has so many
pub record IsSetting {P : Type 0} (started program : P) (planned ranks : ℕ) : Type 0 where
  pub program_is : started ≡ program
  pub ranks_are : planned ≡ ranks

-- the machine has made these events, and each run stands after its rank's
pub record IsCourse {P R : Type 0} (standing : R → Standing P) (program : P) (n : ℕ) (events : List Event) (machine : MachineState P) (runs : List R) : Type 0 where
  pub program_is : machine.program ≡ program
  pub ranks_are : machine.ranks ≡ n
  pub events_are : machine.events ≡ events
  pub runs_are : AreRuns standing program n events runs

-- the machine has made one event more, which the runs have not seen
pub record IsAhead {P R : Type 0} (standing : R → Standing P) (program : P) (n : ℕ) (events : List Event) (machine : MachineState P) (runs : List R) : Type 0 where
  pub program_is : machine.program ≡ program
  pub ranks_are : machine.ranks ≡ n
  pub event : Event
  pub events_are : machine.events ≡ events ++ event ∷ []
  pub runs_are : AreRuns standing program n events runs

-- a rank's call was answered with what its turn picks; where it picks nothing, it can go or no call can
pub record IsAnswered (next : Next) (n : ℕ) (before after : List Event) (turn : Turn) (call : Call) : Type 0 where
  pub events_are : after ≡ before ++ picked_event n before turn.rank call turn.pick ∷ []
  pub offered : has_pick n before turn.rank call turn.pick ≡ true
  pub goes : turn.pick ≡ First → (can_go n before turn.rank (view_of before turn.rank) call ≡ true) ⊎ IsStuck next n before

-- it was not, since its pick is not there, or it cannot go
pub record IsTurnHeldBack (n : ℕ) (before after : List Event) (turn : Turn) (call : Call) : Type 0 where
  pub events_are : after ≡ before
  pub absent : turn.pick ≢ First → has_pick n before turn.rank call turn.pick ≡ false
  pub held : turn.pick ≡ First → can_go n before turn.rank (view_of before turn.rank) call ≡ false

-- a rank's next call is quiet, and was answered
pub record IsQuietlyAnswered (next : Next) (n : ℕ) (races : Races) (before after : List Event) (rank : ℕ) : Type 0 where
  pub call : Call
  pub kind : is_quiet races call ≡ true
  pub asked : call_after next n before rank ≡ Some call
  pub answered : IsAnswered next n before after (record { rank = rank; pick = First }) call

-- the run that the recording by these turns makes comes to this
pub record ComesTo (next : Next) (output : Output) (n : ℕ) (turns : List Turn) (outcome : RunOutcome) : Type 0 where
  pub run : List Event
  pub picks : List Pick
  pub taken : IsRunByTurns next n turns run
  pub picked : IsPicked next n picks run
  pub outcome_is : outcome ≡ outcome_of_run output n run

-- what is told of a run by its ending and what each rank printed
abbrev pub reported_outcome : ℕ → Ending → List (List ℕ) → RunOutcome
reported_outcome n ending outputs =
    record { ending = reported_ending ending; printed = map (λ rank. (rank, slice_index_or outputs rank [])) (reported_ranks n ending) }
