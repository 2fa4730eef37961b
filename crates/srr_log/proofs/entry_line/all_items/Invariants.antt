use Rattle.std.proofs.Common.{◌≡◌, length}
use Rattle.srr_log.specs.inside.EntryReading.{all_items_in}
use Rattle.srr_log.proofs.ListLaws.{onto}
use Rattle.srr_log.proofs.entry_line.all_items.Given as goal

-- the items so far, before those of the rest
abbrev pub invariant-loop-piece : goal.invariant-loop-piece
invariant-loop-piece l = onto l.found (all_items_in l.ranks l.group l.rest) ≡ all_items_in l.ranks l.group l.initial.rest

abbrev pub decreases-loop-piece : goal.decreases-loop-piece
decreases-loop-piece l = length l.rest
