use Rattle.std.proofs.Common.{length}
use Rattle.wait_graph.proofs.ReadLemmas.{IsReadSoFar}
use Rattle.wait_graph.proofs.reading.read.Given as goal

abbrev pub invariant-loop-rest : goal.invariant-loop-rest
invariant-loop-rest l = IsReadSoFar l.n l.events l.rest l.register

abbrev pub decreases-loop-rest : goal.decreases-loop-rest
decreases-loop-rest l = length l.rest
