use Rattle.std.proofs.Common.{◌≡◌, ◌++◌, take}
use Rattle.mpi_call.proofs.results.append_all.Given as goal

abbrev pub invariant-loop-value : goal.invariant-loop-value
invariant-loop-value l = l.ints ≡ l.initial.ints ++ take l.value-index l.values
