use Rattle.std.proofs.Common.{◌≡◌, length}
use Rattle.srr_log.specs.inside.EntryReading.{ranks_in}
use Rattle.srr_log.proofs.ListLaws.{onto}
use Rattle.srr_log.proofs.lists.ranks.Given as goal

-- the ranks so far, before those of the rest
abbrev pub invariant-loop-piece : goal.invariant-loop-piece
invariant-loop-piece l = onto l.found (ranks_in l.mark l.ranks l.rest) ≡ ranks_in l.mark l.ranks l.initial.rest

abbrev pub decreases-loop-piece : goal.decreases-loop-piece
decreases-loop-piece l = length l.rest
