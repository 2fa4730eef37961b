use Rattle.std.proofs.Common.{◌≡◌, ◌++◌, [], length}
use Rattle.srr_log.specs.inside.Written.{entries_text}
use Rattle.srr_log.proofs.write_log.push_entries.Given as goal

abbrev pub invariant-loop-rest : goal.invariant-loop-rest
invariant-loop-rest l = l.out ++ entries_text l.rest [] ≡ l.initial.out ++ entries_text l.initial.rest []

abbrev pub decreases-loop-rest : goal.decreases-loop-rest
decreases-loop-rest l = length l.rest
