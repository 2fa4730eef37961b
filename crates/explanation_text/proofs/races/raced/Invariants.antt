use Rattle.std.proofs.Common.{◌≡◌, ◌+◌, ◌≤◌, length}
use Rattle.explanation_text.specs.RacesTexts.{raced}
use Rattle.explanation_text.proofs.races.raced.Given as goal

abbrev pub invariant-loop-rest : goal.invariant-loop-rest
invariant-loop-rest l =
    record {
      sum : l.count + raced l.rest ≡ raced l.receives;
      few : l.count + length l.rest ≤ length l.receives;
    }

abbrev pub decreases-loop-rest : goal.decreases-loop-rest
decreases-loop-rest l = length l.rest
