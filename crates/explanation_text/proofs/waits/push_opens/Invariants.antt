use Rattle.std.proofs.Common.{◌≡◌, ◌++◌, flat_map, length}
use Rattle.explanation_text.specs.WaitsTexts.{open_text}
use Rattle.explanation_text.proofs.waits.push_opens.Given as goal

abbrev pub invariant-loop-rest : goal.invariant-loop-rest
invariant-loop-rest l =
    l.out ++ flat_map (open_text l.comm l.source l.tag) l.rest ≡ l.initial.out ++ flat_map (open_text l.comm l.source l.tag) l.opens

abbrev pub decreases-loop-rest : goal.decreases-loop-rest
decreases-loop-rest l = length l.rest
