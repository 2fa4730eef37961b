-- What is told of a run that is stuck.
use Rattle.std.specs.Prelude.{◌≡◌, ◌≢◌, ◌<◌, ◌⊎◌, ◌↔◌, ℕ, List, [], Some, length}
use Rattle.mpi_call.specs.declared.call.Call.{Call}
use Rattle.mpi_call.specs.declared.call.Halt.TheVariants.{Stuck}
use Rattle.mpi_call.specs.Lists.{IsIn}
use Rattle.run_model.specs.declared.event.Event.{Event}
use Rattle.run_model.specs.Due.{halted}
use Rattle.run_model.specs.Serial.{call_after}
use Rattle.run_model.specs.Views.{Next, view_of}
use Rattle.wait_graph.specs.declared.message.Open.{Open}
use Rattle.wait_graph.specs.declared.wait.Wait.{Wait}
use Rattle.wait_graph.specs.Going.{IsBlocked, going}
use Rattle.wait_graph.specs.Graph.{cycles, hopeless}
use Rattle.wait_graph.specs.Laws.{DiffersFrom, IsDead}
use Rattle.wait_graph.specs.Opens.{opens_to}
use Rattle.wait_graph.specs.Waits.{waits_at}

-- it is halted as stuck exactly where, before it was halted, some rank was live and no call could go
abbrev pub IsStuckExactly : Next → ℕ → List Event → Type 0
IsStuckExactly next n events = (halted events ≡ Some Stuck) ↔ IsDead next n (going events)

-- the ranks that are told as blocked are those that were live, each at its next call; each waits for something, from which each message to
-- it that is told as open differs; and there is a cycle, or a rank that waits in vain
pub record HasReason (next : Next) (n : ℕ) (events : List Event) : Type 0 where
  pub blocked : (rank : ℕ) (call : Call) → rank < n
      → (call_after next n (going events) rank ≡ Some call) ↔ IsBlocked events rank (length (view_of (going events) rank)) call
  pub waits : (rank : ℕ) (call : Call) → rank < n → call_after next n (going events) rank ≡ Some call → waits_at n (going events) rank call ≢ []
  pub opens : (rank : ℕ) (call : Call) → rank < n → call_after next n (going events) rank ≡ Some call
      → (wait : Wait) (found : Open) → IsIn wait (waits_at n (going events) rank call) → IsIn found (opens_to n (going events) rank) → DiffersFrom found wait.call
  pub cause : (cycles n events ≢ []) ⊎ (hopeless n events ≢ [])
