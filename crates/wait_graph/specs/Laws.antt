-- What holds of the runs that are stuck.
use Rattle.std.specs.Prelude.{◌≡◌, ◌≢◌, ◌<◌, ◌⊎◌, ◌↔◌, ℕ, List, [], Some, None, length}
use Rattle.mpi_call.specs.declared.call.Call.{Call}
use Rattle.mpi_call.specs.declared.call.Call.TheVariants.{Peek, Post}
use Rattle.mpi_call.specs.declared.call.Halt.TheVariants.{Stuck}
use Rattle.mpi_call.specs.Lists.{IsIn}
use Rattle.run_model.specs.declared.event.Event.{Event}
use Rattle.run_model.specs.Allowed.{IsStuck}
use Rattle.run_model.specs.Due.{halted}
use Rattle.run_model.specs.Run.{IsRun}
use Rattle.run_model.specs.Serial.{call_after}
use Rattle.run_model.specs.Views.{Next, view_of}
use Rattle.wait_graph.specs.declared.message.Open.{Open}
use Rattle.wait_graph.specs.declared.wait.Wait.{Wait}
use Rattle.wait_graph.specs.Opens.{differences, opens_to}
use Rattle.wait_graph.specs.Going.{IsBlocked, going}
use Rattle.wait_graph.specs.Graph.{cycles, hopeless}
use Rattle.wait_graph.specs.Waits.{waits_at}

-- a run in which each rank has ended
pub record IsEndedRun (next : Next) (n : ℕ) (events : List Event) : Type 0 where
  pub is_run : IsRun next n events
  pub ended : (rank : ℕ) → rank < n → call_after next n events rank ≡ None

-- some rank is live, and no live rank's call can go
pub record IsDead (next : Next) (n : ℕ) (events : List Event) : Type 0 where
  pub rank : ℕ
  pub call : Call
  pub below : rank < n
  pub live : call_after next n events rank ≡ Some call
  pub stuck : IsStuck next n events

-- a run is halted as stuck if and only if, before it was halted, no call could go
abbrev pub StuckExactly : Next → ℕ → Type 0
StuckExactly next n = (events : List Event) → IsEndedRun next n events → (halted events ≡ Some Stuck) ↔ IsDead next n (going events)

-- then its blocked ranks are those that were live, each at its next call
abbrev pub BlockedExactly : Next → ℕ → Type 0
BlockedExactly next n =
    (events : List Event) → IsEndedRun next n events → halted events ≡ Some Stuck → (rank : ℕ) (call : Call) → rank < n
    → (call_after next n (going events) rank ≡ Some call) ↔ IsBlocked events rank (length (view_of (going events) rank)) call

-- each waits for something
abbrev pub BlockedWait : Next → ℕ → Type 0
BlockedWait next n =
    (events : List Event) → IsEndedRun next n events → halted events ≡ Some Stuck → (rank : ℕ) (call : Call) → rank < n
    → call_after next n (going events) rank ≡ Some call → waits_at n (going events) rank call ≢ []

-- and there is a cycle, or a rank that waits in vain
abbrev pub HasCause : Next → ℕ → Type 0
HasCause next n =
    (events : List Event) → IsEndedRun next n events → halted events ≡ Some Stuck → (cycles n events ≢ []) ⊎ (hopeless n events ≢ [])

-- a message that nobody has received differs in something from what a receive, or a probe, accepts
abbrev pub DiffersFrom : Open → Call → Type 0
DiffersFrom found (Post comm source tag room) = differences comm source tag found.comm found.name.rank found.tag ≢ []
DiffersFrom found (Peek comm source tag wait) = differences comm source tag found.comm found.name.rank found.tag ≢ []
DiffersFrom found call = Unit {0}

-- what is open to a blocked rank differs from all that it waits for
abbrev pub OpensDiffer : Next → ℕ → Type 0
OpensDiffer next n =
    (events : List Event) → IsEndedRun next n events → halted events ≡ Some Stuck → (rank : ℕ) (call : Call) → rank < n
    → call_after next n (going events) rank ≡ Some call → (wait : Wait) (found : Open) → IsIn wait (waits_at n (going events) rank call)
    → IsIn found (opens_to n (going events) rank) → DiffersFrom found wait.call
