use Rattle.std.proofs.Common.{◌≡◌, ◌++◌, length}
use Rattle.svg_text.specs.Marks.{sources_in}
use Rattle.svg_text.proofs.marks.sources_in.Given as goal

abbrev pub invariant-loop-rest : goal.invariant-loop-rest
invariant-loop-rest l = l.sources ++ sources_in l.rest ≡ sources_in l.items

abbrev pub decreases-loop-rest : goal.decreases-loop-rest
decreases-loop-rest l = length l.rest
