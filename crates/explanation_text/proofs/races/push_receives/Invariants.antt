use Rattle.std.proofs.Common.{◌≡◌, ◌++◌, flat_map, length}
use Rattle.explanation_text.specs.RacesTexts.{receive_text}
use Rattle.explanation_text.proofs.races.push_receives.Given as goal

abbrev pub invariant-loop-rest : goal.invariant-loop-rest
invariant-loop-rest l =
    l.out ++ flat_map receive_text l.rest ≡ l.initial.out ++ flat_map receive_text l.receives

abbrev pub decreases-loop-rest : goal.decreases-loop-rest
decreases-loop-rest l = length l.rest
