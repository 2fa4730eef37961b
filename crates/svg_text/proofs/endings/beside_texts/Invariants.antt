use Rattle.std.proofs.Common.{◌≡◌}
use Rattle.svg_text.specs.Endings.{beside_texts}
use Rattle.svg_text.proofs.endings.beside_texts.Given as goal

abbrev pub invariant-loop-rank : goal.invariant-loop-rank
invariant-loop-rank l = l.texts ≡ beside_texts l.all l.outputs l.rank
