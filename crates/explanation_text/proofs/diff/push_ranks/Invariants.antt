use Rattle.std.proofs.Common.{◌≡◌, ◌++◌, flat_map, length}
use Rattle.explanation_text.specs.DiffTexts.{compared_rank_text}
use Rattle.explanation_text.proofs.diff.push_ranks.Given as goal

abbrev pub invariant-loop-rest : goal.invariant-loop-rest
invariant-loop-rest l = l.out ++ flat_map (compared_rank_text l.one l.other) l.rest ≡ l.initial.out ++ flat_map (compared_rank_text l.one l.other) l.ranks

abbrev pub decreases-loop-rest : goal.decreases-loop-rest
decreases-loop-rest l = length l.rest
