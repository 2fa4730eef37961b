use Rattle.std.proofs.Common.{◌≡◌, ◌++◌, flat_map, length}
use Rattle.explore_text.specs.ExploreTexts.{printed_text}
use Rattle.explore_text.proofs.text.push_all_printed.Given as goal

abbrev pub invariant-loop-rest : goal.invariant-loop-rest
invariant-loop-rest l = l.out ++ flat_map printed_text l.rest ≡ l.initial.out ++ flat_map printed_text l.printed

abbrev pub decreases-loop-rest : goal.decreases-loop-rest
decreases-loop-rest l = length l.rest
