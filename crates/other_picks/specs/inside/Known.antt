-- For the crate's own contracts: what is kept beside the events that were read, and a receive as it is looked at.
use Rattle.std.specs.Prelude.{◌≡◌, ◌<◌, ℕ, List, Option, Some, None, Bool, false, not, ◌&&◌, ◌==◌, is_some, length, slice_index}
use Rattle.mpi_call.specs.declared.call.Call.{Call}
use Rattle.mpi_call.specs.declared.call.Call.TheVariants.{Peek, Post}
use Rattle.mpi_call.specs.declared.call.Source.TheVariants.{Any, From}
use Rattle.run_model.specs.declared.event.Event.{Event}
use Rattle.run_model.specs.Choice.{choice}
use Rattle.run_model.specs.Views.{starts_of, view_of}
use Rattle.match_core.specs.Histories.{KnowsUnpaired}
use Rattle.picked_runs.specs.declared.turn.Pick.{Pick}
use Rattle.picked_runs.specs.Picked.{IsPickedEvent}
use Rattle.other_picks.specs.declared.known.UnpairedStarts.{UnpairedStarts}
use Rattle.other_picks.specs.declared.listing.PairedReceive.{PairedReceive}
use Rattle.other_picks.specs.declared.listing.Wildcard.{Wildcard}
use Rattle.other_picks.specs.declared.other.OtherPick.{OtherPick}

-- how many starts each rank has made
pub record AreStartCounts (events : List Event) (counts : List ℕ) : Type 0 where
  pub each : (rank : ℕ) → rank < 256 → slice_index counts rank ≡ length (starts_of (view_of events rank))

-- what is kept is that of these events
pub record IsKnown (events : List Event) (known : UnpairedStarts) : Type 0 where
  pub matcher : KnowsUnpaired events known.matcher
  pub starts : AreStartCounts events known.starts

-- an event of a run of n ranks, after those before it
pub record IsEventOf (n : ℕ) (before : List Event) (event : Event) : Type 0 where
  pub pick : Pick
  pub picked : IsPickedEvent n before event pick

-- the same, of some number of ranks
abbrev pub IsAnEvent : List Event → Event → Type 0
IsAnEvent before event = (n : ℕ) × IsEventOf n before event

-- the communicator and the tag of a receive from any source
abbrev pub any_in : Call → Option Wildcard
any_in (Post comm Any tag room) = Some (record { comm = comm; tag = tag })
any_in call = None

-- a receive with one sender
abbrev pub with_sender : PairedReceive → ℕ → OtherPick
with_sender receive sender = record { at = receive.at; rank = receive.rank; start = receive.start; sender = sender }

-- there is a message of this sender for it, and the sender is not that of the one that it took
abbrev pub could_take : List Event → PairedReceive → ℕ → Bool
could_take before receive sender =
    not (sender == receive.took) && is_some (choice before receive.rank (Peek receive.wildcard.comm (From sender) receive.wildcard.tag false))
