use Rattle.rank_counts.proofs.GreaterLemmas.{AreGreaterBelow}
use Rattle.rank_counts.proofs.take_greater.Given as goal

abbrev pub invariant-loop-rank : goal.invariant-loop-rank
invariant-loop-rank l = AreGreaterBelow l.rank l.initial.mine l.other l.mine
