-- The turns that can be made after a history, and sets of histories that they do not lead out of.
use Rattle.std.specs.Prelude.{◌≡◌, ◌<◌, ◌⊎◌, ℕ, List, [], ◌∷◌, ◌++◌, Some, None, true, false}
use Rattle.mpi_call.specs.declared.call.Call.{Call}
use Rattle.mpi_call.specs.declared.call.Halt.{Halt}
use Rattle.mpi_call.specs.declared.reply.Reply.TheVariants.{Stopped}
use Rattle.mpi_call.specs.Lists.{IsIn}
use Rattle.run_model.specs.declared.event.Event.{Event}
use Rattle.run_model.specs.Allowed.{IsStuck, can_go}
use Rattle.run_model.specs.Due.{halt_of_reply}
use Rattle.run_model.specs.Serial.{call_after}
use Rattle.run_model.specs.Views.{Moment, Next}
use Rattle.picked_runs.specs.declared.turn.Pick.{Pick}
use Rattle.picked_runs.specs.declared.turn.Pick.TheVariants.{First, Sender, Index}
use Rattle.picked_runs.specs.Picks.{has_pick, picked_event, picked_reply}
use Rattle.run_states.specs.Futures.{SameFuture}

-- no sender and no index can be picked
pub record HasNoPick (n : ℕ) (before : List Event) (me : ℕ) (call : Call) : Type 0 where
  pub senders : (sender : ℕ) → has_pick n before me call (Sender sender) ≡ false
  pub indices : (index : ℕ) → has_pick n before me call (Index index) ≡ false

-- nothing is picked only where nothing can be, so the pick leaves nothing to the order of events
abbrev pub IsPickSettled : ℕ → List Event → ℕ → Call → Pick → Type 0
IsPickSettled n before me call First = HasNoPick n before me call
IsPickSettled n before me call pick = Unit {0}

-- a rank's next call can be answered with this pick, and by no halt
pub record IsMove (next : Next) (n : ℕ) (before : List Event) (rank : ℕ) (call : Call) (pick : Pick) : Type 0 where
  pub below : rank < n
  pub asked : call_after next n before rank ≡ Some call
  pub offered : has_pick n before rank call pick ≡ true
  pub settled : IsPickSettled n before rank call pick
  pub free : halt_of_reply (picked_reply n before rank call pick) ≡ None

-- the asking rank's next call is answered with this pick, and by this halt; Stuck is so only where no call can go
pub record IsHalting (next : Next) (moment : Moment) (call : Call) (pick : Pick) (halt : Halt) : Type 0 where
  pub below : moment.me < moment.ranks
  pub asked : call_after next moment.ranks moment.before moment.me ≡ Some call
  pub offered : has_pick moment.ranks moment.before moment.me call pick ≡ true
  pub settled : IsPickSettled moment.ranks moment.before moment.me call pick
  pub halts : picked_reply moment.ranks moment.before moment.me call pick ≡ Stopped halt
  pub goes : (can_go moment.ranks moment.before moment.me moment.own call ≡ true) ⊎ IsStuck next moment.ranks moment.before

-- among these histories is one that leaves what this one leaves
abbrev pub IsVisited : ℕ → List (List Event) → List Event → Type 0
IsVisited n visited events = (one : List Event) × IsIn one visited × SameFuture n one events

-- these histories have met a first one, and of each of them what its moves make, as far as the steps are wanted
pub record AreClosed (next : Next) (n : ℕ) (root : List Event) (IsWanted : List Event → Event → Type 0) (visited : List (List Event)) : Type 0 where
  pub first : IsVisited n visited root
  pub more : (before : List Event) (rank : ℕ) (call : Call) (pick : Pick) → IsIn before visited → IsMove next n before rank call pick
      → IsWanted before (picked_event n before rank call pick) → IsVisited n visited (before ++ picked_event n before rank call pick ∷ [])
