use Rattle.std.proofs.Common.{◌≡◌, ℕ, List, length}
use Rattle.causes.specs.inside.Joins.{IsJoinOfAll}
use Rattle.causes.proofs.clock.join_all.Given as goal

abbrev pub invariant-loop-rest : goal.invariant-loop-rest
invariant-loop-rest l =
    record {
      wide : length l.clock ≡ length l.initial.clock;
      joins : (new : List ℕ) → IsJoinOfAll l.clock l.clocks l.rest new → IsJoinOfAll l.initial.clock l.clocks l.places new;
    }

abbrev pub decreases-loop-rest : goal.decreases-loop-rest
decreases-loop-rest l = length l.rest
