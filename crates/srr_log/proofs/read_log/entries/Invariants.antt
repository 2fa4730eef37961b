use Rattle.std.proofs.Common.{◌≡◌, ◌+◌, ℕ, List, length, map}
use Rattle.srr_log.specs.Parts.{entry_part}
use Rattle.srr_log.specs.inside.Reading.{entries_left}
use Rattle.srr_log.proofs.StateLaws.{AreRead}
use Rattle.srr_log.proofs.read_log.entries.Given as goal

abbrev pub invariant-loop-left : goal.invariant-loop-left
invariant-loop-left l = record {
  many : length l.entries + l.left ≡ l.count;
  read : (behind : List ℕ) → AreRead (entries_left l.ranks l.group l.count behind) (map entry_part l.entries) l.initial.cursor l.cursor;
}

abbrev pub decreases-loop-left : goal.decreases-loop-left
decreases-loop-left l = l.left
