use Rattle.std.proofs.Common.{◌≡◌, length, true}
use Rattle.run_model.specs.Lists.{are_below}
use Rattle.wait_graph.proofs.FoundLemmas.{IsFoundSoFar}
use Rattle.wait_graph.proofs.stuck.graph.Given as goal

abbrev pub invariant-loop-rest : goal.invariant-loop-rest
invariant-loop-rest l = record {
  below : are_below l.n l.rest ≡ true;
  found : IsFoundSoFar l.n l.history.events l.initial.rest l.rest l.blocked l.nexts.items l.hopeless;
}

abbrev pub decreases-loop-rest : goal.decreases-loop-rest
decreases-loop-rest l = length l.rest
