-- How deep events lie: the lengths of the longest chains of causes that end with them.
use Rattle.std.specs.Prelude.{◌≡◌, ◌<◌, ◌≤◌, ℕ, zero, suc, List, length, slice_index}
use Rattle.run_model.specs.declared.event.Event.{Event}
use Rattle.causes.specs.Before.{PrecedesDirectly}

-- a chain of so many steps ends at a position
pub data IsChain (n : ℕ) (events : List Event) : ℕ → ℕ → Type 0 where
  alone : (u : ℕ) → IsChain n events zero u
  longer : (steps t u : ℕ) → IsChain n events steps t → PrecedesDirectly n events t u → IsChain n events (suc steps) u

-- the longest chain that ends there has so many
pub record IsDepth (n : ℕ) (events : List Event) (u depth : ℕ) : Type 0 where
  pub chain : IsChain n events depth u
  pub longest : (steps : ℕ) → IsChain n events steps u → steps ≤ depth

-- the depth of each position
pub record AreDepths (n : ℕ) (events : List Event) (depths : List ℕ) : Type 0 where
  pub as_many : length depths ≡ length events
  pub each : (u : ℕ) → u < length events → IsDepth n events u (slice_index depths u)
