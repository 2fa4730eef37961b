-- What an earlier breakpoint cuts off, beside a later one of the same rank.
use Rattle.std.specs.Prelude.{◌<◌, ◌≤◌, ℕ, List, Some, length}
use Rattle.replay_model.specs.Replays.{Breakpoint, IsWholeReplay}
use Rattle.replay_model.specs.Rests.{IsInCut}
use Rattle.run_model.specs.declared.event.Event.{Event}
use Rattle.run_model.specs.Views.{Next, View, view_of}
use Rattle.srr_entry.specs.declared.log.Log.{Log}

-- the cut of one breakpoint is within that of another: V is what each rank has seen
abbrev pub IsCutWithin : ℕ → List ℕ → (ℕ → View) → Breakpoint → Breakpoint → Type 0
IsCutWithin n group V stop other = (rank number : ℕ) → IsInCut n group V stop rank number → IsInCut n group V other rank number

-- a step back is a part: the cut of an earlier place of a rank is within that of a later one
abbrev pub IsStepBack : ℕ → List ℕ → (ℕ → View) → Type 0
IsStepBack n group V = (at earlier later : ℕ) → earlier ≤ later → IsCutWithin n group V (Some (at, earlier)) (Some (at, later))

-- each rank has no more calls in one history than in another
abbrev pub HasNoMore : List Event → List Event → Type 0
HasNoMore events others = (rank number : ℕ) → number < length (view_of events rank) → number < length (view_of others rank)

-- beside a run with the log, whole replays up to an earlier place and up to a later one
abbrev pub ReplaysStepBack : Next → Log → List Event → Type 0
ReplaysStepBack next log run =
    (at earlier later : ℕ) (events others : List Event) → earlier ≤ later → IsWholeReplay next log (Some (at, earlier)) events
    → IsWholeReplay next log (Some (at, later)) others → HasNoMore events others
