-- What holds of the spans of a run.
use Rattle.std.specs.Prelude.{◌≡◌, ◌<◌, ◌≤◌, ◌+◌, ℕ, List}
use Rattle.mpi_call.specs.Lists.{IsIn}
use Rattle.run_model.specs.declared.event.Event.{Event}
use Rattle.run_model.specs.Run.{IsRun}
use Rattle.run_model.specs.Views.{Next}
use Rattle.group_plan.specs.Plans.{number_of_ranks}
use Rattle.run_drawing.specs.declared.drawing.DrawnMark.{DrawnMark}
use Rattle.run_drawing.specs.Drawings.{IsDrawing}
use Rattle.run_drawing.specs.Drawn.{Drawn}

-- a call's span begins in its column, and is one column long
abbrev pub begin_of : DrawnMark → ℕ
begin_of mark = mark.column

-- where a span of one microsecond ends
abbrev pub mark_end : DrawnMark → ℕ
mark_end mark = mark.column + 1

-- in a run of the program each span of a rank has ended when a later one of its begins
abbrev pub SpansAreDisjoint : Next → Type 0
SpansAreDisjoint next =
    (plan : List (List ℕ)) (events : List Event) (drawing : Drawn) (one other : DrawnMark) → IsRun next (number_of_ranks plan) events → IsDrawing plan events drawing
    → IsIn one drawing.marks → IsIn other drawing.marks → one.rank ≡ other.rank → one.number < other.number → mark_end one ≤ begin_of other
