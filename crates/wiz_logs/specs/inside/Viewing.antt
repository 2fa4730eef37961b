-- What the commands that tell what stands in a replay share.
use Rattle.std.specs.Prelude.{ℕ, List}
use Rattle.run_model.specs.declared.event.Event.{Event}
use Rattle.run_model.specs.Program.{IsViewOf}
use Rattle.run_model.specs.Views.{Next, view_of}

-- each rank has got replies in shape alone
abbrev pub HaveCome : Next → ℕ → List Event → Type 0
HaveCome next n events = (rank : ℕ) → IsViewOf next n rank (view_of events rank)
