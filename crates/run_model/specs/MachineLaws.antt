-- What holds of the runs that a recording machine makes.
use Rattle.std.specs.Prelude.{◌≡◌, ◌<◌, ◌⊎◌, ℕ, List, [], ◌∷◌, ◌++◌, Some, Bool, true, false}
use Rattle.std.specs.List.{list_any}
use Rattle.mpi_call.specs.declared.call.Call.{Call}
use Rattle.mpi_call.specs.declared.call.Halt.TheVariants.{Stuck}
use Rattle.mpi_call.specs.declared.reply.Reply.{Reply}
use Rattle.mpi_call.specs.declared.reply.Reply.TheVariants.{Stopped}
use Rattle.run_model.specs.declared.event.Event.{Event}
use Rattle.run_model.specs.Lists.{IsPrefixOf}
use Rattle.run_model.specs.Program.{ends}
use Rattle.run_model.specs.Allowed.{IsStuck, can_go}
use Rattle.run_model.specs.Pairs.{IsAllMatched}
use Rattle.run_model.specs.Run.{IsPromptRun}
use Rattle.run_model.specs.Views.{Next, replies_in, view_of}
use Rattle.run_model.specs.Chosen.{IsChosen, chosen_event, order_of}
use Rattle.run_model.specs.Serial.{IsSerial}

-- a reply that tells that no rank can go on
abbrev pub is_stuck_reply : Reply → Bool
is_stuck_reply (Stopped Stuck) = true
is_stuck_reply reply = false

-- some reply is Stuck
abbrev pub has_stuck : List Event → Bool
has_stuck events = list_any (λ (event : Event). is_stuck_reply event.reply) events

-- two runs of the machine in one order are the same
abbrev pub OrderFixesRun : Next → ℕ → Type 0
OrderFixesRun next n =
    (one other : List Event) → IsChosen next n one → IsChosen next n other → order_of one ≡ order_of other → one ≡ other

-- turns have one serial run
abbrev pub TurnsFixSerial : Next → ℕ → Type 0
TurnsFixSerial next n =
    (turns : List ℕ) (one other : List Event) → IsSerial next n turns one → IsSerial next n turns other → one ≡ other

-- in a serial run each rank has ended
abbrev pub SerialEnds : Next → ℕ → Type 0
SerialEnds next n =
    (turns : List ℕ) (events : List Event) → IsSerial next n turns events → IsPromptRun next n events
    → (rank : ℕ) → rank < n → list_any ends (view_of events rank) ≡ true

-- a run of the machine without a Stuck reply begins the serial run of its order as turns
abbrev pub OrderBeginsSerial : Next → ℕ → Type 0
OrderBeginsSerial next n =
    (run events : List Event) → IsChosen next n run → has_stuck run ≡ false → IsSerial next n (order_of run) events → IsPrefixOf run events

-- the machine's event for a rank's next call makes its run longer, where the call can go or no call can, if the pairs meet
-- their conditions after it
abbrev pub StaysMatched : Next → ℕ → Type 0
StaysMatched next n =
    (before : List Event) (rank : ℕ) (call : Call) → IsChosen next n before → rank < n
    → next n rank (replies_in (view_of before rank)) ≡ Some call
    → (can_go n before rank (view_of before rank) call ≡ true) ⊎ IsStuck next n before
    → IsAllMatched (before ++ chosen_event n before rank call ∷ [])
    → IsChosen next n (before ++ chosen_event n before rank call ∷ [])
