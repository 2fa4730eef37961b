-- What is found of each rank before it is known which partings come first.
use Rattle.std.specs.Prelude.{◌≡◌, ℕ, List, Option, Some, Bool, true, false, not, ◌&&◌, ◌||◌, length, map, slice_get}
use Rattle.std.specs.List.{list_any}
use Rattle.mpi_call.specs.Lists.{IsIn}
use Rattle.run_model.specs.declared.event.Event.{Event}
use Rattle.run_model.specs.Views.{View, view_of}
use Rattle.causes.specs.Positions.{is_event_of, positions}
use Rattle.view_diff.specs.declared.marks.RankMark.{RankMark}
use Rattle.view_diff.specs.Firsts.{tells_no_other_halt}
use Rattle.view_diff.specs.Partings.{AreAlike, IsParting}

-- two views part at a call, or they are alike and have so many calls
abbrev pub IsPartingOrAlike : Bool → View → View → ℕ → Type 0
IsPartingOrAlike true own other same = IsParting own other same
IsPartingOrAlike false own other same = AreAlike own other × (same ≡ length own)

-- a rank's mark: where its views part, whether the parting is its own, and the position of that call in the first history
pub record IsRankMark (one other : List Event) (mark : RankMark) : Type 0 where
  pub split : IsPartingOrAlike mark.parts (view_of one mark.rank) (view_of other mark.rank) mark.same
  pub own : mark.is_own ≡ tells_no_other_halt one other mark.rank mark.same
  pub place : mark.place ≡ slice_get (positions (is_event_of mark.rank) 0 one) mark.same

-- a mark for each rank of the group
pub record AreMarks (group : List ℕ) (one other : List Event) (marks : List RankMark) : Type 0 where
  pub all : map (λ (mark : RankMark). mark.rank) marks ≡ group
  pub each : (mark : RankMark) → IsIn mark marks → IsRankMark one other mark

-- some parting is the rank's own
abbrev pub has_own : List RankMark → Bool
has_own marks = list_any (λ (mark : RankMark). mark.parts && mark.is_own) marks

-- a parting that counts
abbrev pub counts : Bool → RankMark → Bool
counts some_own mark = mark.parts && (mark.is_own || not some_own)

-- one position is before another, where both are there
abbrev pub precedes : (ℕ → ℕ → Bool) → Option ℕ → Option ℕ → Bool
precedes test (Some t) (Some u) = test t u
precedes test t u = false

-- a parting comes first, by the test of which position is before which
abbrev pub is_first : (ℕ → ℕ → Bool) → List RankMark → RankMark → Bool
is_first test marks mark =
    counts (has_own marks) mark
    && not (list_any (λ (other : RankMark). counts (has_own marks) other && precedes test other.place mark.place) marks)
