use Rattle.std.proofs.Common.{◌≡◌}
use Rattle.msg_races.specs.Listing.{lists_below}
use Rattle.run_drawing.specs.Drawings.{drawn_marks}
use Rattle.run_drawing.specs.inside.Scenes.{basis_of}
use Rattle.run_drawing.proofs.draw.all_marks.Given as goal

abbrev pub invariant-loop-rank : goal.invariant-loop-rank
invariant-loop-rank l = l.marks.items ≡ lists_below (drawn_marks (basis_of l.scene)) l.rank
