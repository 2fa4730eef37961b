use Rattle.std.proofs.Common.{◌≡◌, ◌++◌, length}
use Rattle.srr_log2.specs.EntryBytes.{items_bytes}
use Rattle.srr_log2.specs.inside.Lengths.{AreShortItems}
use Rattle.srr_log2.proofs.entry_bytes.push_items.Given as goal

abbrev pub invariant-loop-rest : goal.invariant-loop-rest
invariant-loop-rest l = record {
  written : l.out ++ items_bytes l.rest ≡ l.initial.out ++ items_bytes l.initial.rest;
  short : AreShortItems l.rest;
}

abbrev pub decreases-loop-rest : goal.decreases-loop-rest
decreases-loop-rest l = length l.rest
