use Rattle.std.proofs.Common.{◌≡◌, length, map}
use Rattle.c_names.specs.Predefined.{predefined_in}
use Rattle.c_names.proofs.predefined.find.Given as goal

abbrev pub invariant-loop-left : goal.invariant-loop-left
invariant-loop-left l =
    predefined_in (map (λ row. (row.0.now, row.1)) l.left) l.name ≡ predefined_in (map (λ row. (row.0.now, row.1)) l.initial.left) l.name

abbrev pub decreases-loop-left : goal.decreases-loop-left
decreases-loop-left l = length l.left
