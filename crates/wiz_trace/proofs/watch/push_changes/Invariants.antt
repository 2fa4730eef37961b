use Rattle.std.proofs.Common.{◌≡◌, ◌++◌, flat_map, length}
use Rattle.wiz_trace.specs.WatchTexts.{change_text}
use Rattle.wiz_trace.proofs.watch.push_changes.Given as goal

abbrev pub invariant-loop-rest : goal.invariant-loop-rest
invariant-loop-rest l = l.out ++ flat_map (change_text l.rank l.name) l.rest ≡ l.initial.out ++ flat_map (change_text l.rank l.name) l.changes

abbrev pub decreases-loop-rest : goal.decreases-loop-rest
decreases-loop-rest l = length l.rest
