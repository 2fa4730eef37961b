use Rattle.std.proofs.Common.{◌≡◌}
use Rattle.srr_log2.specs.EntryReading.{coded_items}
use Rattle.srr_log2.proofs.LoopLaws.{onto}
use Rattle.srr_log2.proofs.record.items.Given as goal

abbrev pub invariant-loop-left : goal.invariant-loop-left
invariant-loop-left l = onto l.found (coded_items l.ranks l.group l.least l.left l.cursor) ≡ coded_items l.ranks l.group 0 l.count l.initial.cursor

abbrev pub decreases-loop-left : goal.decreases-loop-left
decreases-loop-left l = l.left
