use Rattle.std.proofs.Common.{◌≡◌, ◌≤◌, length, max}
use Rattle.svg_text.specs.Endings.{longest}
use Rattle.svg_text.specs.declared.endings.TheConstants.{MOST_CHARACTERS}
use Rattle.svg_text.proofs.endings.longest.Given as goal

abbrev pub invariant-loop-rest : goal.invariant-loop-rest
invariant-loop-rest l = record {
  most : max l.most (longest l.rest) ≡ longest l.texts;
  few : l.most ≤ MOST_CHARACTERS;
}

abbrev pub decreases-loop-rest : goal.decreases-loop-rest
decreases-loop-rest l = length l.rest
