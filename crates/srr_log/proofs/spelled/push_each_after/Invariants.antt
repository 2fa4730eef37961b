use Rattle.std.proofs.Common.{◌≡◌, ◌++◌, map, length}
use Rattle.srr_log.specs.EntryText.{each_after}
use Rattle.srr_log.proofs.spelled.push_each_after.Given as goal

abbrev pub invariant-loop-rest : goal.invariant-loop-rest
invariant-loop-rest g l = l.out ++ each_after l.mark (map g.T.Spelled.text l.rest) ≡ l.initial.out ++ each_after l.mark (map g.T.Spelled.text l.initial.rest)

abbrev pub decreases-loop-rest : goal.decreases-loop-rest
decreases-loop-rest g l = length l.rest
