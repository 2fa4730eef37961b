use Rattle.std.proofs.Common.{◌≡◌, length}
use Rattle.run_model.specs.Shape.{gots_fit}
use Rattle.run_model.proofs.shape.gots_fit.Given as goal

abbrev pub invariant-loop-rest : goal.invariant-loop-rest
invariant-loop-rest l = gots_fit l.n l.rank l.view l.starts l.rest ≡ gots_fit l.n l.rank l.view l.starts l.items

abbrev pub decreases-loop-rest : goal.decreases-loop-rest
decreases-loop-rest l = length l.rest
