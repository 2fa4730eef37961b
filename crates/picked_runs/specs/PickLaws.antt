-- What holds of the runs that picks make.
use Rattle.std.specs.Prelude.{◌≡◌, ◌≢◌, ◌↔◌, ◌<◌, ◌≤◌, ◌⊎◌, ℕ, List, [], ◌∷◌, ◌++◌, Some, true, false, length}
use Rattle.std.specs.List.{AllByRecursion, list_any}
use Rattle.mpi_call.specs.declared.call.Call.{Call}
use Rattle.run_model.specs.declared.event.Event.{Event}
use Rattle.run_model.specs.Lists.{IsPrefixOf}
use Rattle.run_model.specs.Program.{ends}
use Rattle.run_model.specs.Allowed.{IsStuck, can_go}
use Rattle.run_model.specs.Pairs.{IsAllMatched}
use Rattle.run_model.specs.Run.{IsPromptRun}
use Rattle.run_model.specs.Views.{Next, replies_in, view_of}
use Rattle.run_model.specs.Chosen.{IsChosen, order_of}
use Rattle.run_model.specs.MachineLaws.{has_stuck}
use Rattle.run_model.specs.Serial.{call_after}
use Rattle.picked_runs.specs.declared.turn.Pick.{Pick}
use Rattle.picked_runs.specs.declared.turn.Pick.TheVariants.{First, Sender}
use Rattle.picked_runs.specs.declared.turn.Turn.{Turn}
use Rattle.picked_runs.specs.Picks.{has_pick, picked_event}
use Rattle.picked_runs.specs.Picked.{IsPicked, picks_and}
use Rattle.picked_runs.specs.Turns.{IsRunByTurns, IsTurnOf, turns_of}
use Rattle.picked_runs.specs.Made.{picks_of}
use Rattle.picked_runs.specs.Numbering.{AreNumberedInOrder}

-- every run that the matching rules allow is made by what it picked
abbrev pub EveryRunIsPicked : Next → ℕ → Type 0
EveryRunIsPicked next n = (run : List Event) → IsPromptRun next n run → AreNumberedInOrder n run → IsPicked next n (picks_of n run) run

-- two runs of one order, made by the same picks, are the same
abbrev pub PicksFixRun : Next → ℕ → Type 0
PicksFixRun next n =
    (picks : List Pick) (one other : List Event) → IsPicked next n picks one → IsPicked next n picks other → order_of one ≡ order_of other → one ≡ other

-- turns make one run
abbrev pub TurnsFixRun : Next → ℕ → Type 0
TurnsFixRun next n = (turns : List Turn) (one other : List Event) → IsRunByTurns next n turns one → IsRunByTurns next n turns other → one ≡ other

-- in it each rank has ended
abbrev pub TurnsEnd : Next → ℕ → Type 0
TurnsEnd next n =
    (turns : List Turn) (events : List Event) → IsRunByTurns next n turns events → IsPromptRun next n events
    → (rank : ℕ) → rank < n → list_any ends (view_of events rank) ≡ true

-- a run that picks make, without a Stuck reply, begins the run of its order and picks as turns
abbrev pub PicksBeginRun : Next → ℕ → Type 0
PicksBeginRun next n =
    (picks : List Pick) (run events : List Event) → IsPicked next n picks run → has_stuck run ≡ false
    → IsRunByTurns next n (turns_of (order_of run) picks) events → IsPrefixOf run events

-- so every run that the matching rules allow, without a Stuck reply, is recorded by some turns: those of its order and of what it picked
abbrev pub EveryRunIsRecorded : Next → ℕ → Type 0
EveryRunIsRecorded next n =
    (run events : List Event) → IsPromptRun next n run → AreNumberedInOrder n run → has_stuck run ≡ false
    → IsRunByTurns next n (turns_of (order_of run) (picks_of n run)) events → IsPrefixOf run events

-- with one more event, which picks this: its pick stands behind the others, and where it picks nothing it need not
pub record AreMorePicked (next : Next) (n : ℕ) (picks : List Pick) (before : List Event) (pick : Pick) (event : Event) : Type 0 where
  pub more : IsPicked next n (picks_and picks (length before) pick) (before ++ event ∷ [])
  pub same : pick ≡ First → length picks ≤ length before → IsPicked next n picks (before ++ event ∷ [])

-- the event of a rank's next call with what it picks makes such a run longer, where the pick can be made and the call can go or no call
-- can, if the pairs meet their conditions after it
abbrev pub PicksGoOn : Next → ℕ → Type 0
PicksGoOn next n =
    (picks : List Pick) (before : List Event) (rank : ℕ) (call : Call) (pick : Pick) → IsPicked next n picks before → rank < n
    → next n rank (replies_in (view_of before rank)) ≡ Some call → has_pick n before rank call pick ≡ true
    → (can_go n before rank (view_of before rank) call ≡ true) ⊎ IsStuck next n before
    → IsAllMatched (before ++ picked_event n before rank call pick ∷ [])
    → AreMorePicked next n picks before pick (picked_event n before rank call pick)

-- a call whose pick can be made can go
abbrev pub PicksCanGo : Next → ℕ → Type 0
PicksCanGo next n =
    (picks : List Pick) (before : List Event) (rank : ℕ) (call : Call) (pick : Pick) → IsPicked next n picks before
    → pick ≢ First → has_pick n before rank call pick ≡ true → can_go n before rank (view_of before rank) call ≡ true

-- new communicators of a run that picks make have a recording machine's numbers
abbrev pub PicksNumberInOrder : Next → ℕ → Type 0
PicksNumberInOrder next n = (picks : List Pick) (run : List Event) → IsPicked next n picks run → AreNumberedInOrder n run

-- a recording machine's runs are those that no picks make
abbrev pub FirstPicksAreChosen : Next → ℕ → Type 0
FirstPicksAreChosen next n = (run : List Event) → IsPicked next n [] run ↔ IsChosen next n run

-- the turns of a run that picks make are turns of n ranks
abbrev pub PicksAreTurns : Next → ℕ → Type 0
PicksAreTurns next n = (picks : List Pick) (run : List Event) → IsPicked next n picks run → AllByRecursion (IsTurnOf n) (turns_of (order_of run) picks)

-- a run that picks make, without a Stuck reply, and then another pick than the run's own: with the event that it makes the run begins that of
-- these turns
abbrev pub OtherPickIsTaken : Next → ℕ → Type 0
OtherPickIsTaken next n =
    (picks : List Pick) (run events : List Event) (rank sender : ℕ) (call : Call) → IsPicked next n picks run → has_stuck run ≡ false
    → call_after next n run rank ≡ Some call → has_pick n run rank call (Sender sender) ≡ true
    → IsRunByTurns next n (turns_of (order_of run) picks ++ (record { rank = rank; pick = Sender sender }) ∷ []) events
    → IsPrefixOf (run ++ picked_event n run rank call (Sender sender) ∷ []) events
