-- The events of a history, handed out by their ranks.
use Rattle.std.specs.Prelude.{◌≡◌, ◌<◌, ◌++◌, ℕ, List, [], length}
use Rattle.std.specs.List.{slice_index_or}
use Rattle.run_model.specs.declared.event.Event.{Event}
use Rattle.run_model.specs.Views.{View, view_of}

-- for each rank that a byte can name, what it has seen of the events but for the last of them, which are not handed out yet
pub record AreViewsBefore (events last : List Event) (views : List View) : Type 0 where
  pub as_many : length views ≡ 256
  pub each : (rank : ℕ) → rank < 256 → slice_index_or views rank [] ++ view_of last rank ≡ view_of events rank
