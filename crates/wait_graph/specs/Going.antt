-- A run before it was halted, and the calls at which ranks were stopped.
use Rattle.std.specs.Prelude.{◌≡◌, ℕ, List, [], ◌∷◌, Option, Some, None, if◌then◌else◌, slice_get}
use Rattle.mpi_call.specs.declared.call.Call.{Call}
use Rattle.mpi_call.specs.declared.call.Halt.TheVariants.{Stuck}
use Rattle.mpi_call.specs.declared.reply.Reply.TheVariants.{Stopped}
use Rattle.run_model.specs.declared.event.Event.{Event}
use Rattle.run_model.specs.Due.{stops}
use Rattle.run_model.specs.Views.{View, view_of}

-- the events before the first that stops a rank
abbrev pub going : List Event → List Event
going [] = []
going (event ∷ events) = if stops event.reply then [] else event ∷ going events

-- the events from the first on that stops a rank
abbrev pub halting : List Event → List Event
halting [] = []
halting (event ∷ events) = if stops event.reply then event ∷ events else halting events

-- a rank is stuck at a call, by number: there it was told that no rank can go on
pub record IsBlocked (events : List Event) (rank number : ℕ) (call : Call) : Type 0 where
  pub there : slice_get (view_of events rank) number ≡ Some (call, Stopped Stuck)

-- the call of a view's first pair
abbrev pub first_call : View → Option Call
first_call [] = None
first_call ((call, reply) ∷ view) = Some call

-- the call at which a rank was stopped
abbrev pub stopped_call : List Event → ℕ → Option Call
stopped_call events rank = first_call (view_of (halting events) rank)
