-- How marks are made, and what they tell.
use Rattle.std.specs.Prelude.{ℕ, List, Bool, true, false, not, ◌||◌, map, slice_get}
use Rattle.run_model.specs.declared.event.Event.{Event}
use Rattle.run_model.specs.Views.{View}
use Rattle.causes.specs.Positions.{is_event_of, positions}
use Rattle.view_diff.specs.declared.compared.Compared.{Compared}
use Rattle.view_diff.specs.declared.compared.ViewRelation.{ViewRelation}
use Rattle.view_diff.specs.declared.compared.ViewRelation.TheVariants.{Alike, First, Follows}
use Rattle.view_diff.specs.declared.marks.RankMark.{RankMark}
use Rattle.view_diff.specs.Firsts.{is_told}
use Rattle.view_diff.specs.inside.Marks.{is_first}

-- by whether the views part, and whether the parting comes first
abbrev pub comparison_of : Bool → Bool → ViewRelation
comparison_of false first = Alike
comparison_of true true = First
comparison_of true false = Follows

-- what one tells, among all
abbrev pub compared_by : (ℕ → ℕ → Bool) → List RankMark → RankMark → Compared
compared_by test marks mark = record { rank = mark.rank; same = mark.same; way = comparison_of mark.parts (is_first test marks mark) }

-- what each of these tells, among all
abbrev pub compared_of : (ℕ → ℕ → Bool) → List RankMark → List RankMark → List Compared
compared_of test marks some = map (compared_by test marks) some

-- the mark of a rank, by its two views and the number of calls that are alike
abbrev pub rank_mark : List Event → View → View → ℕ → Bool → ℕ → RankMark
rank_mark one own others rank parts same = record {
  rank = rank;
  same = same;
  parts = parts;
  is_own = not (is_told rank (slice_get own same) || is_told rank (slice_get others same));
  place = slice_get (positions (is_event_of rank) 0 one) same;
}
