use Rattle.std.proofs.Common.{◌≡◌, length}
use Rattle.srr_log2.specs.Fields.{coded_many}
use Rattle.srr_log2.specs.EntryReading.{coded_rank_list}
use Rattle.srr_log2.proofs.LoopLaws.{onto}
use Rattle.srr_log2.proofs.read_log2.lists.Given as goal

abbrev pub invariant-loop-left : goal.invariant-loop-left
invariant-loop-left l = onto l.found (coded_many (coded_rank_list l.ranks l.group) l.left l.cursor) ≡ coded_many (coded_rank_list l.ranks l.group) (length l.group) l.initial.cursor

abbrev pub decreases-loop-left : goal.decreases-loop-left
decreases-loop-left l = l.left
