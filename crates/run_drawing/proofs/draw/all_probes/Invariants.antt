use Rattle.std.proofs.Common.{◌≡◌}
use Rattle.msg_races.specs.Listing.{lists_below}
use Rattle.run_drawing.specs.Drawings.{probe_at, of_events}
use Rattle.run_drawing.specs.inside.Scenes.{basis_of}
use Rattle.run_drawing.proofs.draw.all_probes.Given as goal

abbrev pub invariant-loop-rank : goal.invariant-loop-rank
invariant-loop-rank l = l.found.items ≡ lists_below (of_events (probe_at (basis_of l.scene)) l.scene.causes.events) l.rank
