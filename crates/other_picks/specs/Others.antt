-- The other picks of a run: of each receive from any source that was paired when it was posted, the senders that it could have taken its
-- message from, and did not.
-- (MPI 3.1, Point-to-Point Communication, "Blocking Receive": `MPI_ANY_SOURCE`.)
use Rattle.std.specs.Prelude.{◌≡◌, ℕ, List, [], ◌∷◌, ◌++◌, Option, Some, Bool, not, ◌&&◌, ◌==◌, filter, length, map, slice_get}
use Rattle.mpi_call.specs.declared.call.Call.{Call}
use Rattle.mpi_call.specs.declared.call.Call.TheVariants.{Post}
use Rattle.mpi_call.specs.declared.call.Source.TheVariants.{Any}
use Rattle.mpi_call.specs.Lists.{IsIn}
use Rattle.run_model.specs.declared.event.Event.{Event}
use Rattle.run_model.specs.Lists.{world}
use Rattle.run_model.specs.Views.{starts_of, view_of, rank_of_event}
use Rattle.picked_runs.specs.declared.turn.Pick.TheVariants.{Sender}
use Rattle.picked_runs.specs.Picks.{has_pick}
use Rattle.other_picks.specs.declared.other.OtherPick.{OtherPick}

-- an event could have picked this sender, which is not that of its mate
abbrev pub could_pick : ℕ → List Event → Event → ℕ → ℕ → Bool
could_pick n before event mate sender =
    not (sender == rank_of_event (slice_get before mate)) && has_pick n before event.rank event.call (Sender sender)

-- a sender for an event, with the name of the receive that the event is
abbrev pub other_of : List Event → Event → ℕ → OtherPick
other_of before event sender =
    record { at = length before; rank = event.rank; start = length (starts_of (view_of before event.rank)); sender = sender }

-- by the call of an event and its mate: a receive from any source that has a mate, with each rank below n that could have been picked, rising
abbrev pub others_by : ℕ → List Event → Event → Call → Option ℕ → List OtherPick
others_by n before event (Post comm Any tag room) (Some mate) = map (other_of before event) (filter (could_pick n before event mate) (world n 0))
others_by n before event call mate = []

-- the other picks of an event, after those before it
abbrev pub others_at : ℕ → List Event → Event → List OtherPick
others_at n before event = others_by n before event event.call event.mate

-- those of these events, one after the other
abbrev pub others_from : ℕ → List Event → List Event → List OtherPick
others_from n before [] = []
others_from n before (event ∷ events) = others_at n before event ++ others_from n (before ++ event ∷ []) events

-- two have another name: of the receive, or of the sender
abbrev pub IsApart : OtherPick → OtherPick → Type 0
IsApart one other = one.rank ≡ other.rank → one.start ≡ other.start → one.sender ≡ other.sender → ⊥

-- no two have the same name
abbrev pub AreApart : List OtherPick → Type 0
AreApart [] = Unit {0}
AreApart (other ∷ others) = ((later : OtherPick) → IsIn later others → IsApart other later) × AreApart others

-- those of a run
abbrev pub others_of : ℕ → List Event → List OtherPick
others_of n run = others_from n [] run
