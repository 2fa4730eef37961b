use Rattle.std.proofs.Common.{◌≡◌, length}
use Rattle.run_model.specs.Views.{items_taken}
use Rattle.view_diff.specs.inside.Marking.{with_marks}
use Rattle.view_diff.proofs.opens.mark_items.Given as goal

abbrev pub invariant-loop-rest : goal.invariant-loop-rest
invariant-loop-rest l = with_marks l.marks (items_taken l.listed l.rest) ≡ with_marks l.initial.marks (items_taken l.listed l.items)

abbrev pub decreases-loop-rest : goal.decreases-loop-rest
decreases-loop-rest l = length l.rest
