use Rattle.std.proofs.Common.{◌≡◌, ◌++◌, replicate}
use Rattle.wiz_usage.proofs.mark.push_blanks.Given as goal

abbrev pub invariant-loop : goal.invariant-loop
invariant-loop l = l.out ≡ l.initial.out ++ replicate l.counter 32
