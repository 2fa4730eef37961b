-- The logs of finer and of coarser groups, made from replays.
use Rattle.std.specs.Prelude.{◌≡◌, ◌≢◌, ◌++◌, ◌||◌, ℕ, List, [], Bool, None, filter, true}
use Rattle.std.specs.List.{list_all}
use Rattle.mpi_call.specs.Collectives.{is_member}
use Rattle.mpi_call.specs.Lists.{Rises}
use Rattle.run_model.specs.declared.event.Event.{Event}
use Rattle.run_model.specs.Lists.{world}
use Rattle.run_model.specs.Program.{AsksInBounds, EntersInForm}
use Rattle.run_model.specs.Views.{Next}
use Rattle.srr_entry.specs.declared.log.Log.{Log}
use Rattle.srr_entry.specs.Entries.{log_of}
use Rattle.replay_model.specs.Replays.{IsWholeReplay}
use Rattle.srr_replay.specs.Rounds.{IsReplayable}
use Rattle.srr_regroup.specs.Joining.{CanJoin}

-- each of these ranks is in the group
abbrev pub are_within : List ℕ → List ℕ → Bool
are_within group ranks = list_all (λ rank. is_member group rank) ranks

-- some ranks of a group, rising
pub record IsPartOf (group part : List ℕ) : Type 0 where
  pub some : part ≢ []
  pub rises : Rises 0 part
  pub within : are_within group part ≡ true

-- the events are a replay of the log by some program, without a breakpoint, that can go no further
pub record IsReplayOfAProgram (log : Log) (events : List Event) : Type 0 where
  pub next : Next
  pub asks : AsksInBounds next
  pub enters : EntersInForm next
  pub whole : IsWholeReplay next log None events

-- the log of a part of a replay's group
abbrev pub refined : Log → List Event → List ℕ → Log
refined log events part = log_of log.program log.ranks events part

-- the ranks of both groups, rising
abbrev pub both_groups : Log → Log → List ℕ
both_groups one two = filter (λ rank. is_member one.group rank || is_member two.group rank) (world one.ranks 0)

-- the log of both groups together, from a replay of each
abbrev pub joined_log : Log → List Event → Log → List Event → Log
joined_log one first two second = log_of one.program one.ranks (first ++ second) (both_groups one two)

-- two logs that can be joined, with a replay of each
pub record CanBeJoined (one : Log) (first : List Event) (two : Log) (second : List Event) : Type 0 where
  pub first_log : IsReplayable one
  pub second_log : IsReplayable two
  pub apart : CanJoin one two
  pub first_replay : IsReplayOfAProgram one first
  pub second_replay : IsReplayOfAProgram two second
