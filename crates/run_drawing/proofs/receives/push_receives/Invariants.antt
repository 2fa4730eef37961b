use Rattle.std.proofs.Common.{◌≡◌, ◌++◌, ℕ, flat_map, length}
use Rattle.mpi_call.specs.Lists.{Rises}
use Rattle.run_drawing.specs.Drawings.{of_starts, receive_at}
use Rattle.run_drawing.specs.inside.Scenes.{ArePast, basis_of}
use Rattle.run_drawing.proofs.receives.push_receives.Given as goal

abbrev pub invariant-loop-rest : goal.invariant-loop-rest
invariant-loop-rest l = record {
  low : ℕ;
  rises : Rises low l.rest;
  past : ArePast (basis_of l.scene) low l.skipped;
  found : l.found.items ++ flat_map (receive_at (basis_of l.scene)) l.rest ≡ l.initial.found.items ++ of_starts (receive_at (basis_of l.scene)) l.scene.causes.events l.rank;
}

abbrev pub decreases-loop-rest : goal.decreases-loop-rest
decreases-loop-rest l = length l.rest
