use Rattle.std.proofs.Common.{◌≡◌, ◌++◌, length}
use Rattle.c_program.specs.Performing.{made_by_all}
use Rattle.c_run_cells.specs.Sizes.{HaveIntSizes}
use Rattle.c_run_cells.proofs.state.learn_all.Given as goal

abbrev pub invariant-loop-rest : goal.invariant-loop-rest
invariant-loop-rest l = record {
  noted : l.made.items ++ made_by_all l.rest ≡ l.initial.made.items ++ made_by_all l.items;
  sizes : HaveIntSizes l.made.items;
}

abbrev pub decreases-loop-rest : goal.decreases-loop-rest
decreases-loop-rest l = length l.rest
