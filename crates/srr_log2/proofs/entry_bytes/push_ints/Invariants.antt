use Rattle.std.proofs.Common.{◌≡◌, ◌++◌, length}
use Rattle.srr_log2.specs.EntryBytes.{ints_bytes}
use Rattle.srr_log2.proofs.entry_bytes.push_ints.Given as goal

abbrev pub invariant-loop-rest : goal.invariant-loop-rest
invariant-loop-rest l = l.out ++ ints_bytes l.rest ≡ l.initial.out ++ ints_bytes l.initial.rest

abbrev pub decreases-loop-rest : goal.decreases-loop-rest
decreases-loop-rest l = length l.rest
