use Rattle.std.proofs.Common.{◌≡◌, ◌<◌, length, max}
use Rattle.svg_text.specs.Endings.{farthest}
use Rattle.svg_text.proofs.endings.farthest.Given as goal

abbrev pub invariant-loop-rest : goal.invariant-loop-rest
invariant-loop-rest l = record {
  far : max l.far (farthest l.rest) ≡ farthest l.arcs;
  small : l.far < 256;
}

abbrev pub decreases-loop-rest : goal.decreases-loop-rest
decreases-loop-rest l = length l.rest
