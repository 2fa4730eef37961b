-- A rank's collective whose result can be made.
use Rattle.std.specs.Prelude.{◌≡◌, ◌<◌, ℕ, List, Some, None, true}
use Rattle.mpi_call.specs.declared.call.Call.{Call}
use Rattle.mpi_call.specs.Calls.{is_enter}
use Rattle.run_model.specs.declared.event.Event.{Event}
use Rattle.run_model.specs.Forms.{AreInOrder}
use Rattle.run_model.specs.Inputs.{inputs_of}
use Rattle.run_model.specs.Views.{start_at, view_of}
use Rattle.replay_model.specs.Breaks.{break_inner}
use Rattle.replay_model.specs.Filling.{absent_of}

-- start k of the rank is this Enter; each needed member has entered, and agrees
pub record IsCollective (n : ℕ) (events : List Event) (rank k : ℕ) (enter : Call) : Type 0 where
  pub below : rank < n
  pub order : AreInOrder n events
  pub start : start_at (view_of events rank) k ≡ Some enter
  pub is : is_enter enter ≡ true
  pub there : absent_of (inputs_of n (view_of events) rank (view_of events rank) k enter) ≡ None
  pub agrees : break_inner n (view_of events) rank (view_of events rank) k (Some enter) ≡ None
