use Rattle.std.proofs.Common.{◌≡◌, ◌++◌, length}
use Rattle.wiz_trace.specs.AtTexts.{snapshots_text}
use Rattle.wiz_trace.proofs.at.push_snapshots.Given as goal

abbrev pub invariant-loop-rest : goal.invariant-loop-rest
invariant-loop-rest l = l.out ++ snapshots_text l.rest ≡ l.initial.out ++ snapshots_text l.snapshots

abbrev pub decreases-loop-rest : goal.decreases-loop-rest
decreases-loop-rest l = length l.rest
