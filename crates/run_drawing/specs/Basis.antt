-- What a drawing is made from.
use Rattle.std.specs.Prelude.{ℕ, List, Bool}
use Rattle.run_model.specs.declared.event.Event.{Event}

-- the number of ranks, the events, their depths, and a test of which are before which
pub record Basis : Type 0 where
  pub ranks : ℕ
  pub events : List Event
  pub depths : List ℕ
  pub before : ℕ → ℕ → Bool
