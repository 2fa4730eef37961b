use Rattle.std.proofs.Common.{◌≡◌, ◌++◌, length}
use Rattle.srr_log2.specs.LogBytes.{lists_bytes}
use Rattle.srr_log2.specs.inside.Lengths.{AreShortLists}
use Rattle.srr_log2.proofs.write_log2.push_lists.Given as goal

abbrev pub invariant-loop-rest : goal.invariant-loop-rest
invariant-loop-rest l = record {
  written : l.out ++ lists_bytes l.rest ≡ l.initial.out ++ lists_bytes l.initial.rest;
  short : AreShortLists l.rest;
}

abbrev pub decreases-loop-rest : goal.decreases-loop-rest
decreases-loop-rest l = length l.rest
