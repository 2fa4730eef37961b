use Rattle.std.proofs.Common.{◌≡◌, ◌++◌}
use Rattle.msg_races.specs.Listing.{lists_below as for_ranks}
use Rattle.svg_text.specs.Shapes.{lane_text}
use Rattle.svg_text.proofs.svg.push_lanes.Given as goal

abbrev pub invariant-loop-rank : goal.invariant-loop-rank
invariant-loop-rank l = l.out ≡ l.initial.out ++ for_ranks (lane_text l.grid l.right l.drawing.groups) l.rank
