use Rattle.std.proofs.Common.{◌≡◌, ◌≤◌, ◌+◌, length}
use Rattle.run_model.specs.Views.{view_of}
use Rattle.run_states.specs.Outcomes.{vain_after, vain_in}
use Rattle.explore.proofs.probes.vain_in.Given as goal

abbrev pub invariant-loop-rest : goal.invariant-loop-rest
invariant-loop-rest l = record {
  counted : vain_after l.count (view_of l.rest l.rank) ≡ vain_in (view_of l.events l.rank);
  few : l.count + length l.rest ≤ length l.events;
}

abbrev pub decreases-loop-rest : goal.decreases-loop-rest
decreases-loop-rest l = length l.rest
