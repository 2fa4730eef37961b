use Rattle.std.proofs.Common.{◌≡◌, ◌++◌, ◌-◌}
use Rattle.srr_log2.specs.Reading.{bits_set}
use Rattle.srr_log2.proofs.read_log2.bits_set.Given as goal

abbrev pub invariant-loop-rank : goal.invariant-loop-rank
invariant-loop-rank l = l.group ++ bits_set (l.ranks - l.rank) l.rank l.left ≡ bits_set l.ranks 0 l.bits
