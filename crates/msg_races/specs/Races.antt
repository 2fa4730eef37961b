-- Message races: for a wildcard receive the other messages that could have reached it.
-- (MPI 3.1, Point-to-Point Communication, "Blocking WildcardReceive": `MPI_ANY_SOURCE`; "Semantics of Point-to-Point Communication".)
use Rattle.std.specs.Prelude.{◌≡◌, ◌≢◌, ◌↔◌, ℕ, ℤ, List, Some, true, slice_get, slice_index}
use Rattle.mpi_call.specs.declared.call.Call.{Call}
use Rattle.mpi_call.specs.declared.call.Call.TheVariants.{Post}
use Rattle.mpi_call.specs.declared.call.Source.TheVariants.{Any}
use Rattle.mpi_call.specs.declared.call.Tag.{Tag}
use Rattle.mpi_call.specs.declared.reply.Got.TheVariants.{Message}
use Rattle.mpi_call.specs.declared.reply.Item.{Item}
use Rattle.mpi_call.specs.declared.reply.Reply.TheVariants.{Took}
use Rattle.mpi_call.specs.Acceptance.{accepts}
use Rattle.mpi_call.specs.Calls.{listed_by}
use Rattle.mpi_call.specs.Lists.{IsIn}
use Rattle.run_model.specs.declared.event.Event.{Event}
use Rattle.run_model.specs.Pairs.{name_at}
use Rattle.run_model.specs.Run.{IsRun}
use Rattle.run_model.specs.Views.{Next}
use Rattle.causes.specs.Before.{IsBefore}
use Rattle.msg_races.specs.declared.arrival.Arrival.{Arrival}
use Rattle.msg_races.specs.declared.names.Name.{Name}
use Rattle.msg_races.specs.declared.receives.WildcardReceive.{WildcardReceive}
use Rattle.msg_races.specs.Names.{AreSorted, receive_name}

-- the start with this name is the event at a position, and this is its call
pub record IsNamedStart (events : List Event) (name : Name) (at : ℕ) (call : Call) : Type 0 where
  pub event : Event
  pub there : slice_get events at ≡ Some event
  pub call_is : event.call ≡ call
  pub named : name_at events at ≡ Some (name.rank, name.start)

-- a Post with source Any
pub record IsWildcard (events : List Event) (name : Name) (comm : ℕ) (tag : Tag) : Type 0 where
  pub at : ℕ
  pub room : ℕ
  pub post : IsNamedStart events name at (Post comm Any tag room)

-- the event at a position is the completion of a receive: its reply has the message of the Send that `took` names
pub record IsCompletion (events : List Event) (name : Name) (at : ℕ) (took : Name) : Type 0 where
  pub event : Event
  pub there : slice_get events at ≡ Some event
  pub own : event.rank ≡ name.rank
  pub items : List Item
  pub reply : event.reply ≡ Took items
  pub item : Item
  pub among : IsIn item items
  pub completes : slice_index (listed_by event.call) item.index ≡ name.start
  pub tag : ℕ
  pub ints : List ℤ
  pub gives : item.got ≡ Message took.rank took.start tag ints

-- a wildcard receive with this communicator and tag that was completed at this position
abbrev pub arrival_of : WildcardReceive → ℕ → Tag → ℕ → Arrival
arrival_of receive comm tag at =
    record { rank = receive.rank; start = receive.start; comm = comm; tag = tag; at = at; took = receive.took }

-- another Send that a wildcard receive accepts, and that its completion is not before
pub record IsRacingSend (n : ℕ) (events : List Event) (arrival : Arrival) (send : Name) : Type 0 where
  pub place : ℕ
  pub call : Call
  pub sent : IsNamedStart events send place call
  pub accepted : accepts arrival.rank arrival.comm Any arrival.tag send.rank call ≡ true
  pub other : send ≢ arrival.took
  pub free : IsBefore n events arrival.at place → ⊥

-- a wildcard receive that was completed, the Send that it took, and exactly its others, by sender and start number
pub record IsRace (n : ℕ) (events : List Event) (receive : WildcardReceive) : Type 0 where
  pub comm : ℕ
  pub tag : Tag
  pub wildcard : IsWildcard events (receive_name receive) comm tag
  pub at : ℕ
  pub completion : IsCompletion events (receive_name receive) at receive.took
  pub sorted : AreSorted (λ (name : Name). name) receive.others
  pub others : (send : Name) → IsIn send receive.others ↔ IsRacingSend n events (arrival_of receive comm tag at) send

-- all wildcard receives that were completed, by rank and start number
pub record AreRaces (n : ℕ) (events : List Event) (receives : List WildcardReceive) : Type 0 where
  pub sorted : AreSorted receive_name receives
  pub each : (receive : WildcardReceive) → IsIn receive receives → IsRace n events receive
  pub all : (name : Name) (comm : ℕ) (tag : Tag) (at : ℕ) (took : Name) → IsWildcard events name comm tag → IsCompletion events name at took
      → (receive : WildcardReceive) × IsIn receive receives × (receive_name receive ≡ name)

-- a run has one list of races: each of its wildcard receives was completed once
abbrev pub RunsHaveOneList : Type 0
RunsHaveOneList =
    (next : Next) (n : ℕ) (events : List Event) (one other : List WildcardReceive) → IsRun next n events → AreRaces n events one → AreRaces n events other
    → one ≡ other
