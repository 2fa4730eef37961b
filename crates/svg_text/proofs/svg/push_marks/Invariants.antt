use Rattle.std.proofs.Common.{◌≡◌, ◌++◌, flat_map, length}
use Rattle.run_model.specs.Views.{view_of}
use Rattle.svg_text.specs.Marks.{drawn_mark_text}
use Rattle.svg_text.proofs.svg.push_marks.Given as goal

abbrev pub invariant-loop-rest : goal.invariant-loop-rest
invariant-loop-rest l = l.out ++ flat_map (drawn_mark_text l.grid l.groups (view_of l.by_rank)) l.rest ≡ l.initial.out ++ flat_map (drawn_mark_text l.grid l.groups (view_of l.by_rank)) l.marks

abbrev pub decreases-loop-rest : goal.decreases-loop-rest
decreases-loop-rest l = length l.rest
