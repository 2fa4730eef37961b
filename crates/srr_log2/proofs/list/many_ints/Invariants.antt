use Rattle.std.proofs.Common.{◌≡◌}
use Rattle.srr_log2.specs.Fields.{coded_many}
use Rattle.srr_log2.specs.EntryReading.{coded_int}
use Rattle.srr_log2.proofs.LoopLaws.{onto}
use Rattle.srr_log2.proofs.list.many_ints.Given as goal

abbrev pub invariant-loop-left : goal.invariant-loop-left
invariant-loop-left l = onto l.found (coded_many coded_int l.left l.cursor) ≡ coded_many coded_int l.count l.initial.cursor

abbrev pub decreases-loop-left : goal.decreases-loop-left
decreases-loop-left l = l.left
