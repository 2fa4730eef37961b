use Rattle.std.proofs.Common.{◌≡◌, length}
use Rattle.run_drawing.specs.Links.{deeper, deepest}
use Rattle.run_drawing.proofs.links.deepest.Given as goal

abbrev pub invariant-loop-rest : goal.invariant-loop-rest
invariant-loop-rest l = deeper l.depths l.found (deepest l.depths l.rest) ≡ deepest l.depths l.places

abbrev pub decreases-loop-rest : goal.decreases-loop-rest
decreases-loop-rest l = length l.rest
