use Rattle.std.proofs.Common.{◌≡◌, ◌++◌, [], drop}
use Rattle.srr_log.specs.inside.Written.{lists_text}
use Rattle.srr_log.proofs.write_log.push_lists.Given as goal

abbrev pub invariant-loop-place : goal.invariant-loop-place
invariant-loop-place l = l.out ++ lists_text (drop l.place l.group) (drop l.place l.lists) [] ≡ l.initial.out ++ lists_text l.group l.lists []
