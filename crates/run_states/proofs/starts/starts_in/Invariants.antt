use Rattle.std.proofs.Common.{◌≡◌, ◌≤◌, ◌+◌, length}
use Rattle.run_model.specs.Views.{starts_of, view_of}
use Rattle.run_states.proofs.starts.starts_in.Given as goal

abbrev pub invariant-loop-rest : goal.invariant-loop-rest
invariant-loop-rest l = record {
  counted : l.count + length (starts_of (view_of l.rest l.rank)) ≡ length (starts_of (view_of l.events l.rank));
  few : l.count + length l.rest ≤ length l.events;
}

abbrev pub decreases-loop-rest : goal.decreases-loop-rest
decreases-loop-rest l = length l.rest
