use Rattle.std.proofs.Common.{◌≡◌, ◌++◌, length, false}
use Rattle.srr_log2.specs.EntryBytes.{records_bytes}
use Rattle.srr_log2.specs.inside.Lengths.{IsShortList}
use Rattle.srr_log2.proofs.entry_bytes.push_records.Given as goal

abbrev pub invariant-loop-rest : goal.invariant-loop-rest
invariant-loop-rest l = record {
  written : l.out ++ records_bytes l.counted l.rest ≡ l.initial.out ++ records_bytes false l.initial.rest;
  short : IsShortList l.rest;
}

abbrev pub decreases-loop-rest : goal.decreases-loop-rest
decreases-loop-rest l = length l.rest
