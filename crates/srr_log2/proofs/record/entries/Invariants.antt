use Rattle.std.proofs.Common.{◌≡◌, ◌≤◌, false}
use Rattle.srr_log2.specs.EntryReading.{coded_entries}
use Rattle.srr_log2.proofs.LoopLaws.{onto}
use Rattle.srr_log2.proofs.record.entries.Given as goal

abbrev pub invariant-loop-left : goal.invariant-loop-left
invariant-loop-left l = record {
  read : onto l.found (coded_entries l.ranks l.group l.counted l.more l.left l.cursor) ≡ coded_entries l.ranks l.group false 0 l.count l.initial.cursor;
  fits : l.left ≤ l.count;
}

abbrev pub decreases-loop-left : goal.decreases-loop-left
decreases-loop-left l = l.left
