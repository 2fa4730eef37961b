use Rattle.std.proofs.Common.{◌≡◌, length}
use Rattle.run_model.specs.Views.{start_at}
use Rattle.run_model.proofs.starts.find_start.Given as goal

abbrev pub invariant-loop-rest : goal.invariant-loop-rest
invariant-loop-rest l = start_at l.rest l.left ≡ start_at l.view l.number

abbrev pub decreases-loop-rest : goal.decreases-loop-rest
decreases-loop-rest l = length l.rest
