-- What a replay of a run's log shows of the run.
use Rattle.std.specs.Prelude.{◌≡◌, ◌<◌, ◌⊎◌, ◌↔◌, ℕ, List, [], Some, None, true, false, All, length, map}
use Rattle.std.specs.List.{Contains}
use Rattle.mpi_call.specs.declared.reply.Reply.{Reply}
use Rattle.mpi_call.specs.Collectives.{is_member}
use Rattle.run_model.specs.declared.event.Event.{Event}
use Rattle.run_model.specs.declared.lists.Variable.{Variable}
use Rattle.run_model.specs.Lists.{IsPrefixOf}
use Rattle.run_model.specs.Run.{IsRun}
use Rattle.run_model.specs.Views.{Next, view_of}
use Rattle.srr_entry.specs.declared.log.Log.{Log}
use Rattle.srr_entry.specs.Entries.{log_of}
use Rattle.replay_model.specs.declared.replayed.Replayed.{Replayed}
use Rattle.replay_model.specs.declared.replayed.Stand.{Stand}
use Rattle.replay_model.specs.declared.replayed.Stand.TheVariants.{Ended, LogEnded, AtBreak, Diverged, Starved}
use Rattle.replay_model.specs.declared.step.Divergence.{Divergence}
use Rattle.replay_model.specs.declared.step.Missing.{Missing}
use Rattle.replay_model.specs.FreeSteps.{AreFreeSteps, IsFreeStep}
use Rattle.replay_model.specs.Replays.{Replays, Breakpoint}
use Rattle.replay_model.specs.Rests.{IsInCut}
use Rattle.replay_model.specs.Stands.{stand_of}
use Rattle.srr_entry.specs.Outputs.{Output, printed_of}

-- a run of the program that has this log
pub record IsRunWith (next : Next) (log : Log) (run : List Event) : Type 0 where
  pub is_run : IsRun next log.ranks run
  pub same_log : log ≡ log_of log.program log.ranks run log.group

-- no rank outside the group has taken a step, and each rank of it has a prefix of its calls, replies and output in the run
pub record BeginsRun (output : Output) (log : Log) (events run : List Event) : Type 0 where
  pub alone : (rank : ℕ) → is_member log.group rank ≡ false → view_of events rank ≡ []
  pub views : (rank : ℕ) → is_member log.group rank ≡ true → IsPrefixOf (view_of events rank) (view_of run rank)
  pub outputs : (rank : ℕ) → is_member log.group rank ≡ true → IsPrefixOf (printed_of output log.ranks events rank) (printed_of output log.ranks run rank)

-- each rank of the group has all of them
pub record HasAllOf (output : Output) (log : Log) (events run : List Event) : Type 0 where
  pub views : (rank : ℕ) → is_member log.group rank ≡ true → view_of events rank ≡ view_of run rank
  pub outputs : (rank : ℕ) → is_member log.group rank ≡ true → printed_of output log.ranks events rank ≡ printed_of output log.ranks run rank

-- whatever the order of the group's ranks: when each step is a rank's next call and what the log's next entry stands for, each rank has
-- at every moment a prefix of what it has in the run, and no other rank has taken a step; where there is no further step, all of it
pub record ShowsInEveryOrder (next : Next) (output : Output) (log : Log) (run : List Event) : Type 0 where
  pub moments : (events : List Event) → AreFreeSteps next log events → BeginsRun output log events run
  pub ends : (events : List Event) → AreFreeSteps next log events → ((event : Event) → IsFreeStep next log events event → ⊥) → HasAllOf output log events run

-- a replay without a breakpoint and such steps are the same
abbrev pub ReplaysInEveryOrder : Next → Log → Type 0
ReplaysInEveryOrder next log = (events : List Event) → Replays next log None events ↔ AreFreeSteps next log events

-- a rank that stands otherwise than at a call that does not fit its entry
abbrev pub HasNotDiverged : Stand → Type 0
HasNotDiverged stand = (divergence : Divergence) → stand ≡ Diverged divergence → ⊥

-- it has come to the end of its program or of its log
abbrev pub IsStandAtEnd : Stand → Type 0
IsStandAtEnd stand = (stand ≡ Ended) ⊎ (stand ≡ LogEnded)

-- the stand of each rank of the group, where it has one
abbrev pub EachStand : (Stand → Type 0) → Next → (ℕ → ℕ → List Reply → List Variable) → Log → Breakpoint → List Event → Type 0
EachStand P next variables log stop events =
    (rank : ℕ) (stand : Stand) → is_member log.group rank ≡ true → stand_of next variables log stop events rank ≡ Some stand → P stand

-- where a rank of the group is starved, some rank of it stands at the breakpoint
abbrev pub StarvesBehindABreak : Next → (ℕ → ℕ → List Reply → List Variable) → Log → Breakpoint → List Event → Type 0
StarvesBehindABreak next variables log stop events =
    (rank : ℕ) (missing : Missing) → is_member log.group rank ≡ true → stand_of next variables log stop events rank ≡ Some (Starved missing)
    → (at : ℕ) × (standing : List Variable) × (is_member log.group at ≡ true) × (stand_of next variables log stop events at ≡ Some (AtBreak standing))

-- the places that were replayed are the cut of the breakpoint
abbrev pub HasTheCut : Log → Breakpoint → List Event → List Event → Type 0
HasTheCut log stop events run =
    (rank number : ℕ) → (number < length (view_of events rank)) ↔ IsInCut log.ranks log.group (view_of run) stop rank number

-- a whole replay beside a run with its log
pub record IsReplayOfRun (output : Output) (log : Log) (stop : Breakpoint) (run : List Event) (replayed : Replayed) : Type 0 where
  pub begins : BeginsRun output log replayed.events.events run
  pub cut : HasTheCut log stop replayed.events.events run
  pub agrees : All HasNotDiverged replayed.ends
  pub starved : (missing : Missing) → Contains replayed.ends (Starved missing) → (standing : List Variable) × Contains replayed.ends (AtBreak standing)
  pub views : stop ≡ None → (rank : ℕ) → is_member log.group rank ≡ true → view_of replayed.events.events rank ≡ view_of run rank
  pub outputs : stop ≡ None → replayed.outputs ≡ map (printed_of output log.ranks run) log.group
  pub ends : stop ≡ None → All IsStandAtEnd replayed.ends

-- beside every run with its log
abbrev pub IsReplayOfEveryRun : Next → Output → Log → Breakpoint → Replayed → Type 0
IsReplayOfEveryRun next output log stop replayed = (run : List Event) → IsRunWith next log run → IsReplayOfRun output log stop run replayed
