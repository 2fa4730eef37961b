use Rattle.std.proofs.Common.{◌≡◌, length}
use Rattle.explore.proofs.quiet.is_same_turns.Given as goal

abbrev pub invariant-loop-rest : goal.invariant-loop-rest
invariant-loop-rest l = l.rest ≡ l.others → l.one ≡ l.other

abbrev pub decreases-loop-rest : goal.decreases-loop-rest
decreases-loop-rest l = length l.rest
