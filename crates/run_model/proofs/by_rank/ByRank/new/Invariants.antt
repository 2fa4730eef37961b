use Rattle.std.proofs.Common.{length}
use Rattle.run_model.specs.ByRank.{AreViewsBefore}
use Rattle.run_model.proofs.by_rank.ByRank.new.Given as goal

abbrev pub invariant-loop-rest : goal.invariant-loop-rest
invariant-loop-rest l = AreViewsBefore l.history.events l.rest l.ranks.items

abbrev pub decreases-loop-rest : goal.decreases-loop-rest
decreases-loop-rest l = length l.rest
