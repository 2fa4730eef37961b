use Rattle.std.proofs.Common.{◌≡◌}
use Rattle.msg_races.specs.Listing.{lists_below}
use Rattle.run_drawing.specs.Drawings.{unreceived_at, of_starts}
use Rattle.run_drawing.specs.inside.Scenes.{basis_of}
use Rattle.run_drawing.proofs.draw.all_unreceived.Given as goal

abbrev pub invariant-loop-rank : goal.invariant-loop-rank
invariant-loop-rank l = l.found.items ≡ lists_below (of_starts (unreceived_at (basis_of l.scene)) l.scene.causes.events) l.rank
