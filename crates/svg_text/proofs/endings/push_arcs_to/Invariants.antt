use Rattle.std.proofs.Common.{◌≡◌, ◌++◌, flat_map, length}
use Rattle.svg_text.specs.Endings.{arc_to}
use Rattle.svg_text.proofs.endings.push_arcs_to.Given as goal

abbrev pub invariant-loop-rest : goal.invariant-loop-rest
invariant-loop-rest l = l.arcs.items ++ flat_map (arc_to l.all l.rank) l.rest ≡ l.initial.arcs.items ++ flat_map (arc_to l.all l.rank) l.awaited

abbrev pub decreases-loop-rest : goal.decreases-loop-rest
decreases-loop-rest l = length l.rest
