use Rattle.std.proofs.Common.{◌≡◌, ◌++◌, flat_map, length, map}
use Rattle.explanation_text.specs.DiffTexts.{open_text}
use Rattle.explanation_text.proofs.diff.push_starts.Given as goal

abbrev pub invariant-loop-rest : goal.invariant-loop-rest
invariant-loop-rest l =
    l.out ++ flat_map open_text (map (λ start. (start.number, start.call.now)) l.rest)
    ≡ l.initial.out ++ flat_map open_text (map (λ start. (start.number, start.call.now)) l.starts)

abbrev pub decreases-loop-rest : goal.decreases-loop-rest
decreases-loop-rest l = length l.rest
