use Rattle.std.proofs.Common.{◌≡◌}
use Rattle.run_drawing.specs.Columns.{behind_first}
use Rattle.run_drawing.proofs.scene.behind_all.Given as goal

abbrev pub invariant-loop-at : goal.invariant-loop-at
invariant-loop-at l = l.behind ≡ behind_first l.events l.depths l.at
