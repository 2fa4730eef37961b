use Rattle.std.proofs.Common.{◌≡◌, length}
use Rattle.c_program.specs.State.{members_among}
use Rattle.c_run_cells.specs.Sizes.{HaveIntSizes}
use Rattle.c_run_cells.proofs.state.members_among.Given as goal

abbrev pub invariant-loop-rest : goal.invariant-loop-rest
invariant-loop-rest l = record {
  same : members_among l.rest l.comm ≡ members_among l.made l.comm;
  sizes : HaveIntSizes l.rest;
}

abbrev pub decreases-loop-rest : goal.decreases-loop-rest
decreases-loop-rest l = length l.rest
