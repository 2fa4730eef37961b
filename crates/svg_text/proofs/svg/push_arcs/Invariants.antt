use Rattle.std.proofs.Common.{◌≡◌, ◌++◌, flat_map, length}
use Rattle.svg_text.specs.Endings.{arc_text}
use Rattle.svg_text.proofs.svg.push_arcs.Given as goal

abbrev pub invariant-loop-rest : goal.invariant-loop-rest
invariant-loop-rest l = l.out ++ flat_map (arc_text l.grid l.right) l.rest ≡ l.initial.out ++ flat_map (arc_text l.grid l.right) l.arcs

abbrev pub decreases-loop-rest : goal.decreases-loop-rest
decreases-loop-rest l = length l.rest
