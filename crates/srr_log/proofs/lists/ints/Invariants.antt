use Rattle.std.proofs.Common.{◌≡◌, length}
use Rattle.srr_log.specs.inside.EntryReading.{ints_in}
use Rattle.srr_log.proofs.ListLaws.{onto}
use Rattle.srr_log.proofs.lists.ints.Given as goal

-- the ints so far, before those of the rest
abbrev pub invariant-loop-piece : goal.invariant-loop-piece
invariant-loop-piece l = onto l.found (ints_in l.rest) ≡ ints_in l.initial.rest

abbrev pub decreases-loop-piece : goal.decreases-loop-piece
decreases-loop-piece l = length l.rest
