-- Vector clocks: for each position and each rank, how many of the rank's events are at the position or before it.
use Rattle.std.specs.Prelude.{◌≡◌, ◌<◌, ◌≤◌, ◌↔◌, ℕ, suc, List, Option, Some, Bool, true, false, ◌&&◌, All, length, nat_lt, slice_get, slice_index, take}
use Rattle.run_model.specs.declared.event.Event.{Event}
use Rattle.causes.specs.Before.{IsBefore, IsUpTo}
use Rattle.causes.specs.Positions.{next_number}

-- the number of ranks, the events, a clock for each, and the number of each among its rank's events
pub record Observed : Type 0 where
  pub ranks : ℕ
  pub events : List Event
  pub clocks : List (List ℕ)
  pub numbers : List ℕ

-- each event's rank is below n
abbrev pub AreOfRanks : ℕ → List Event → Type 0
AreOfRanks n events = All (λ (event : Event). event.rank < n) events

-- of the event at position t the number among its rank's events
abbrev pub number_of_event : List Event → ℕ → ℕ → ℕ
number_of_event events rank t = next_number rank (take t events)

-- the clock of position u: an event up to there is u or before u if and only if its number is below the clock's entry of its rank;
-- an entry counts events up to there alone
pub record IsClock (n : ℕ) (events : List Event) (u : ℕ) (clock : List ℕ) : Type 0 where
  pub wide : length clock ≡ n
  pub few : (rank : ℕ) → slice_index clock rank ≤ next_number rank (take (suc u) events)
  pub tells : (t : ℕ) (event : Event) → t ≤ u → slice_get events t ≡ Some event → (number_of_event events event.rank t < slice_index clock event.rank) ↔ IsUpTo n events t u

-- a clock for each position
pub record AreClocks (n : ℕ) (events : List Event) (clocks : List (List ℕ)) : Type 0 where
  pub as_many : length clocks ≡ length events
  pub each : (u : ℕ) (clock : List ℕ) → slice_get clocks u ≡ Some clock → IsClock n events u clock

-- the number of each event among its rank's events
pub record AreNumbers (events : List Event) (numbers : List ℕ) : Type 0 where
  pub as_many : length numbers ≡ length events
  pub each : (t : ℕ) (event : Event) → slice_get events t ≡ Some event → slice_index numbers t ≡ number_of_event events event.rank t

-- what a clock tells of an event with this number among its rank's events
abbrev pub is_in_clock : Option (List ℕ) → Option Event → ℕ → Bool
is_in_clock (Some clock) (Some event) number = nat_lt number (slice_index clock event.rank)
is_in_clock clock event number = false

-- the test of whether position t is before position u: the clock of u tells it
abbrev pub comes_before : Observed → ℕ → ℕ → Bool
comes_before seen t u = nat_lt t u && is_in_clock (slice_get seen.clocks u) (slice_get seen.events t) (slice_index seen.numbers t)

-- a test tells which positions are before which
abbrev pub TellsBefore : (ℕ → ℕ → Bool) → ℕ → List Event → Type 0
TellsBefore test n events = (t u : ℕ) → (test t u ≡ true) ↔ IsBefore n events t u
