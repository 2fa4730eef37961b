use Rattle.std.proofs.Common.{◌≡◌, ◌++◌, ◌+◌, ◌≤◌, length}
use Rattle.explore_text.specs.ExploreTexts.{all_found_text}
use Rattle.explore_text.proofs.text.push_all_found.Given as goal

abbrev pub invariant-loop-rest : goal.invariant-loop-rest
invariant-loop-rest l =
    record {
      text : l.out ++ all_found_text l.number l.rest l.left ≡ l.initial.out ++ all_found_text 0 l.listed l.waits;
      few : l.number + length l.rest ≤ length l.listed;
    }

abbrev pub decreases-loop-rest : goal.decreases-loop-rest
decreases-loop-rest l = length l.rest
