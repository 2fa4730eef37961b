use Rattle.std.proofs.Common.{◌≡◌, ◌++◌, map, length}
use Rattle.srr_log.specs.EntryText.{each_after, item_text}
use Rattle.srr_log.proofs.entry_text.push_items.Given as goal

abbrev pub invariant-loop-rest : goal.invariant-loop-rest
invariant-loop-rest l = l.out ++ each_after 32 (map item_text l.rest) ≡ l.initial.out ++ each_after 32 (map item_text l.initial.rest)

abbrev pub decreases-loop-rest : goal.decreases-loop-rest
decreases-loop-rest l = length l.rest
