-- Logs that can be replayed, and rounds over the ranks of a group.
use Rattle.std.specs.Prelude.{◌≡◌, ◌<◌, ◌≤◌, ◌+◌, ℕ, zero, suc, List, [], ◌∷◌, ◌++◌, Option, Some, None, Bool, true, false, All, length, slice_index}
use Rattle.std.specs.List.{slice_index_or}
use Rattle.mpi_call.specs.declared.call.Call.{Call}
use Rattle.mpi_call.specs.declared.limits.TheConstants.{MOST_EVENTS, MOST_RANKS}
use Rattle.mpi_call.specs.Collectives.{is_distinct}
use Rattle.run_model.specs.declared.event.Event.{Event}
use Rattle.run_model.specs.Lists.{are_below}
use Rattle.run_model.specs.Program.{Standing, IsAfter}
use Rattle.run_model.specs.Views.{Next, replies_in, view_of}
use Rattle.srr_entry.specs.declared.log.Log.{Log}
use Rattle.replay_model.specs.Replays.{Breakpoint, IsReplayStep, ReplayState, replay_answer, events_after}

-- 1 to 64 ranks, a group of distinct ranks below their number, a list of entries for each, no longer than a log holds
pub record IsReplayable (log : Log) : Type 0 where
  pub few : log.ranks ≤ MOST_RANKS
  pub some : 0 < length log.group
  pub below : are_below log.ranks log.group ≡ true
  pub distinct : is_distinct log.group ≡ true
  pub as_many : length log.lists ≡ length log.group
  pub short : All (λ entries. length entries ≤ MOST_EVENTS + MOST_RANKS) log.lists

-- the same program, log and breakpoint
pub record SameReplay {P : Type 0} (old new : ReplayState P) : Type 0 where
  pub program : new.program ≡ old.program
  pub log : new.log ≡ old.log
  pub stop : new.stop ≡ old.stop

-- each number counts the calls of its rank
abbrev pub AreCallCounts : ℕ → List Event → List ℕ → Type 0
AreCallCounts n events counts = (length counts ≡ n) × ((rank : ℕ) → rank < n → slice_index counts rank ≡ length (view_of events rank))

-- the events grew by one of the rank, or by none
abbrev pub GrowsBy : ℕ → List Event → List Event → Bool → Type 0
GrowsBy rank before after false = after ≡ before
GrowsBy rank before after true = (event : Event) × (event.rank ≡ rank) × (after ≡ before ++ event ∷ [])

-- the rank has no step
abbrev pub HasNoStep : Next → Log → Breakpoint → List Event → ℕ → Type 0
HasNoStep next log stop events rank = (event : Event) → event.rank ≡ rank → IsReplayStep next log stop events event → ⊥

-- one run for each rank of the group, each after its rank's events
pub record RunAll {P R : Type 0} (standing : R → Standing P) (program : P) (log : Log) (events : List Event) (runs : List R) : Type 0 where
  pub as_many : length runs ≡ length log.group
  pub each : (k : ℕ) (run : R) → k < length log.group → IsAfter program log.ranks (slice_index log.group k) events (standing (slice_index_or runs k run))

-- an attempt of a rank: one event more, where it has a step
abbrev pub replay_attempt_with : Log → Breakpoint → List Event → ℕ → Option Call → List Event
replay_attempt_with log stop events rank None = events
replay_attempt_with log stop events rank (Some call) = events_after events rank call (replay_answer log stop (view_of events) rank (view_of events rank) call)

-- an attempt of a rank with its program's next call
abbrev pub replay_attempt : Next → Log → Breakpoint → List Event → ℕ → List Event
replay_attempt next log stop events rank = replay_attempt_with log stop events rank (next log.ranks rank (replies_in (view_of events rank)))

-- these ranks attempt in order
abbrev pub replay_attempts : Next → Log → Breakpoint → List Event → List ℕ → List Event
replay_attempts next log stop events [] = events
replay_attempts next log stop events (rank ∷ ranks) = replay_attempts next log stop (replay_attempt next log stop events rank) ranks

-- a number of rounds over the group, in the order of its ranks
abbrev pub replay_rounds : Next → Log → Breakpoint → ℕ → List Event → List Event
replay_rounds next log stop zero events = events
replay_rounds next log stop (suc more) events = replay_rounds next log stop more (replay_attempts next log stop events log.group)

-- the events after as many rounds as it takes until one has no event
pub record AreReplayedRounds (next : Next) (log : Log) (stop : Breakpoint) (before events : List Event) : Type 0 where
  pub count : ℕ
  pub made : replay_rounds next log stop count before ≡ events
  pub rests : replay_attempts next log stop events log.group ≡ events
