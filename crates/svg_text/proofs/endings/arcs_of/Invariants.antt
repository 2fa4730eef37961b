use Rattle.std.proofs.Common.{◌≡◌, ◌++◌, flat_map, length}
use Rattle.svg_text.specs.Endings.{arcs_of_rank}
use Rattle.svg_text.proofs.endings.arcs_of.Given as goal

abbrev pub invariant-loop-rest : goal.invariant-loop-rest
invariant-loop-rest l = l.arcs.items ++ flat_map (arcs_of_rank l.all) l.rest ≡ flat_map (arcs_of_rank l.all) l.all

abbrev pub decreases-loop-rest : goal.decreases-loop-rest
decreases-loop-rest l = length l.rest
