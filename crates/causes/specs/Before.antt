-- Happens-before: which events of a history come before others whatever the order in which the ranks ran.
-- It is defined over any list of events, of a run or of a replay.
use Rattle.std.specs.Prelude.{◌≡◌, ◌<◌, ◌⊎◌, ℕ, List, Some, length, slice_get, take}
use Rattle.mpi_call.specs.Lists.{IsIn}
use Rattle.run_model.specs.declared.event.Event.{Event}
use Rattle.causes.specs.Steps.{rests_on}

-- of these events the one at a position is of the rank
pub record IsEventOfRank (before : List Event) (rank t : ℕ) : Type 0 where
  pub earlier : Event
  pub at : slice_get before t ≡ Some earlier
  pub own : earlier.rank ≡ rank

-- the event at t, of these, is directly before the one that comes next: it is of the same rank, or the reply rests on it
pub record IsDirectlyBefore (n : ℕ) (before : List Event) (event : Event) (t : ℕ) : Type 0 where
  pub less : t < length before
  pub why : IsEventOfRank before event.rank t ⊎ IsIn t (rests_on n before event.rank event.call event.reply)

-- position t is directly before position u
pub record PrecedesDirectly (n : ℕ) (events : List Event) (t u : ℕ) : Type 0 where
  pub event : Event
  pub at : slice_get events u ≡ Some event
  pub direct : IsDirectlyBefore n (take u events) event t

-- position t is before position u: there is a path of steps from t to u
pub data IsBefore (n : ℕ) (events : List Event) : ℕ → ℕ → Type 0 where
  step : (t u : ℕ) → PrecedesDirectly n events t u → IsBefore n events t u
  path : (s t u : ℕ) → IsBefore n events s t → PrecedesDirectly n events t u → IsBefore n events s u

-- position t is u or before it
abbrev pub IsUpTo : ℕ → List Event → ℕ → ℕ → Type 0
IsUpTo n events t u = (t ≡ u) ⊎ IsBefore n events t u
