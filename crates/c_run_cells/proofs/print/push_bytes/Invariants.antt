use Rattle.std.proofs.Common.{◌≡◌, ◌++◌, replicate}
use Rattle.c_run_cells.proofs.print.push_bytes.Given as goal

abbrev pub invariant-loop-i : goal.invariant-loop-i
invariant-loop-i l = l.out ≡ l.initial.out ++ replicate l._i l.byte
