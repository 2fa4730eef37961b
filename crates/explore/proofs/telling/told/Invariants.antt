use Rattle.std.proofs.Common.{◌≡◌, ◌++◌, [], length, map}
use Rattle.std.specs.List.{slice_index_or}
use Rattle.run_states.specs.Outcomes.{reported_ending, reported_ranks}
use Rattle.explore.proofs.telling.told.Given as goal

abbrev pub invariant-loop-rest : goal.invariant-loop-rest
invariant-loop-rest l = record {
  ending : l.outcome.ending ≡ reported_ending l.fn.ending;
  printed : l.outcome.printed ++ map (λ rank. (rank, slice_index_or l.outputs rank [])) l.rest
      ≡ map (λ rank. (rank, slice_index_or l.outputs rank [])) (reported_ranks l.n l.fn.ending);
}

abbrev pub decreases-loop-rest : goal.decreases-loop-rest
decreases-loop-rest l = length l.rest
