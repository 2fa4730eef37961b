use Rattle.std.proofs.Common.{◌≡◌, ◌++◌, flat_map, length}
use Rattle.svg_text.specs.Shapes.{drawn_probe_text}
use Rattle.svg_text.proofs.svg.push_probes.Given as goal

abbrev pub invariant-loop-rest : goal.invariant-loop-rest
invariant-loop-rest l = l.out ++ flat_map (drawn_probe_text l.grid) l.rest ≡ l.initial.out ++ flat_map (drawn_probe_text l.grid) l.probes

abbrev pub decreases-loop-rest : goal.decreases-loop-rest
decreases-loop-rest l = length l.rest
