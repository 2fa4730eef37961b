use Rattle.std.proofs.Common.{◌≡◌, ◌≤◌, ◌+◌, length}
use Rattle.srr_log2.specs.EntryBytes.{not_yets}
use Rattle.srr_log2.proofs.entry_bytes.not_yets.Given as goal

abbrev pub invariant-loop-rest : goal.invariant-loop-rest
invariant-loop-rest l = record {
  counted : l.count + not_yets l.rest ≡ not_yets l.entries;
  few : l.count + length l.rest ≤ length l.entries;
}

abbrev pub decreases-loop-rest : goal.decreases-loop-rest
decreases-loop-rest l = length l.rest
