use Rattle.std.proofs.Common.{◌≡◌}
use Rattle.msg_races.specs.Listing.{lists_below}
use Rattle.run_drawing.specs.Drawings.{of_starts, receive_at}
use Rattle.run_drawing.specs.inside.Scenes.{basis_of}
use Rattle.run_drawing.proofs.receives.all_receives.Given as goal

abbrev pub invariant-loop-rank : goal.invariant-loop-rank
invariant-loop-rank l = l.found.items ≡ lists_below (of_starts (receive_at (basis_of l.scene)) l.scene.causes.events) l.rank
