use Rattle.std.proofs.Common.{◌≡◌, ◌++◌}
use Rattle.svg_text.specs.Endings.{endings_text}
use Rattle.svg_text.proofs.endings.push_endings.Given as goal

abbrev pub invariant-loop-rank : goal.invariant-loop-rank
invariant-loop-rank l = l.out ≡ l.initial.out ++ endings_text l.grid l.all l.x l.texts l.rank
