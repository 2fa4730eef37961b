use Rattle.std.proofs.Common.{◌≡◌, drop}
use Rattle.c_scope.specs.Least.{least_fault_from}
use Rattle.c_types.specs.Programs.{prototype_faults}
use Rattle.c_types.proofs.ParameterLoops.{behind_first}
use Rattle.c_types.proofs.parameters.check_prototype.Given as goal

abbrev pub invariant-loop-behind : goal.invariant-loop-behind
invariant-loop-behind l =
    least_fault_from l.best (prototype_faults l.scope l.main (behind_first (drop l.behind-index l.behind-items)))
    ≡ least_fault_from l.initial.best (prototype_faults l.scope l.main (behind_first l.behind-items))
