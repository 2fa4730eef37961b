-- What is kept beside the events of a run.
use Rattle.std.specs.Prelude.{◌≡◌, ◌<◌, ◌≤◌, ℕ, List, [], Bool, Option, Some, None, if◌then◌else◌, is_some, length, option_map}
use Rattle.std.specs.List.{list_any, slice_index_or}
use Rattle.mpi_call.specs.declared.call.Call.{Call}
use Rattle.mpi_call.specs.declared.reply.Reply.{Reply}
use Rattle.run_model.specs.declared.event.Event.{Event}
use Rattle.run_model.specs.Communicators.{is_on}
use Rattle.run_model.specs.Pairs.{Name, name_at, pairs_of, partner_of}
use Rattle.run_model.specs.Program.{ends}
use Rattle.run_model.specs.Views.{View, is_start, starts_of, view_of}
use Rattle.srr_entry.specs.Known.{IsKnownOf}
use Rattle.wait_graph.specs.declared.register.Register.{Register}
use Rattle.wait_graph.specs.declared.own.RankRecord.{RankRecord}
use Rattle.msg_races.specs.declared.names.Name.{Name as StartName}
use Rattle.wait_graph.specs.Partners.{is_paired_in}
use Rattle.wait_graph.specs.Taken.{AreTaken}

-- what is kept of a rank that has seen this
pub record IsRankRecord (n : ℕ) (view : View) (own : RankRecord) : Type 0 where
  pub known : IsKnownOf n view own.known
  pub taken : AreTaken view own.taken
  pub calls : own.calls ≡ length view
  pub starts : own.starts ≡ length (starts_of view)
  pub has_ended : own.has_ended ≡ list_any ends view

-- a name as a rank and a number
abbrev pub name_pair : StartName → Name
name_pair name = (name.rank, name.start)

-- the name of the start at each position
pub record AreNames (events : List Event) (names : List (Option StartName)) : Type 0 where
  pub as_many : length names ≡ length events
  pub each : (at : ℕ) → option_map name_pair (slice_index_or names at None) ≡ name_at events at

-- the starts that are paired
pub record ArePartners (events : List Event) (ranks : List (List Bool)) : Type 0 where
  pub each : (name : StartName) → is_paired_in ranks name ≡ is_some (partner_of (pairs_of events) (name_pair name))

-- what is kept of n ranks beside these events
pub record IsRegister (n : ℕ) (events : List Event) (register : Register) : Type 0 where
  pub as_many : length register.ranks.items ≡ n
  pub ranks : (rank : ℕ) (d : RankRecord) → rank < n → IsRankRecord n (view_of events rank) (slice_index_or register.ranks.items rank d)
  pub others : (rank : ℕ) → n ≤ rank → view_of events rank ≡ []
  pub names : AreNames events register.names.items
  pub partners : ArePartners events register.partners

-- 1 for a start
abbrev pub count_start : Call × Reply → ℕ
count_start seen = if is_start seen then 1 else 0

-- a name, where the event is a start
abbrev pub named_by : Event → StartName → Option StartName
named_by event name = if is_start (event.call, event.reply) then Some name else None

-- the name of the start at a mate's position
abbrev pub earlier_in : List (Option StartName) → Option ℕ → Option StartName
earlier_in names None = None
earlier_in names (Some at) = slice_index_or names at None

-- 1 for an Enter on the communicator
abbrev pub count_one : ℕ → Call → ℕ
count_one comm call = if is_on comm call then 1 else 0
