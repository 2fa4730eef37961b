use Rattle.std.proofs.Common.{◌≡◌, ◌++◌, length}
use Rattle.explanation_text.specs.AdviceTexts.{blocks_text}
use Rattle.explanation_text.proofs.advice.push_blocks.Given as goal

abbrev pub invariant-loop-rest : goal.invariant-loop-rest
invariant-loop-rest l = l.out ++ blocks_text l.begin l.rest ≡ l.initial.out ++ blocks_text 0 l.ends

abbrev pub decreases-loop-rest : goal.decreases-loop-rest
decreases-loop-rest l = length l.rest
