use Rattle.std.proofs.Common.{◌≡◌, ◌<◌, ◌+◌, ◌^◌, ◌++◌, length}
use Rattle.run_drawing.specs.Drawings.{marks_from, drawn_marks}
use Rattle.run_drawing.specs.inside.Scenes.{basis_of}
use Rattle.run_drawing.proofs.draw.push_marks.Given as goal

abbrev pub invariant-loop-rest : goal.invariant-loop-rest
invariant-loop-rest l = record {
  short : l.number + length l.rest < 2 ^ 32;
  marks : l.marks.items ++ marks_from (basis_of l.scene) l.rank l.number l.rest ≡ l.initial.marks.items ++ drawn_marks (basis_of l.scene) l.rank;
}

abbrev pub decreases-loop-rest : goal.decreases-loop-rest
decreases-loop-rest l = length l.rest
