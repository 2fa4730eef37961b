use Rattle.std.proofs.Common.{◌≡◌, ◌++◌, ◌+◌, ◌≤◌, length}
use Rattle.explanation_text.specs.AdviceTexts.{bounds_text}
use Rattle.explanation_text.proofs.advice.push_bounds.Given as goal

abbrev pub invariant-loop-rest : goal.invariant-loop-rest
invariant-loop-rest l =
    record {
      text : l.out ++ bounds_text l.ranks l.rest ≡ l.initial.out ++ bounds_text 0 l.bounds;
      few : l.ranks + length l.rest ≤ length l.bounds;
    }

abbrev pub decreases-loop-rest : goal.decreases-loop-rest
decreases-loop-rest l = length l.rest
