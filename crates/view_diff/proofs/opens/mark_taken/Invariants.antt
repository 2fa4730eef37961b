use Rattle.std.proofs.Common.{◌≡◌, length, map}
use Rattle.view_diff.specs.inside.Marking.{with_taken_marks}
use Rattle.view_diff.proofs.opens.mark_taken.Given as goal

abbrev pub invariant-loop-rest : goal.invariant-loop-rest
invariant-loop-rest l =
    with_taken_marks l.marks (map (λ event. (event.now.call, event.now.reply)) l.rest)
    ≡ with_taken_marks l.initial.marks (map (λ event. (event.now.call, event.now.reply)) l.own)

abbrev pub decreases-loop-rest : goal.decreases-loop-rest
decreases-loop-rest l = length l.rest
