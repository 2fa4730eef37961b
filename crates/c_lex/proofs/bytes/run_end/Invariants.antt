use Rattle.std.proofs.Common.{◌≡◌, ◌≤◌, ◌<◌, ◌-◌, ℕ, true, slice_index}
use Rattle.c_lex.specs.Bytes.{is_in_class}
use Rattle.c_lex.proofs.bytes.run_end.Given as goal

abbrev pub invariant-loop-end : goal.invariant-loop-end
invariant-loop-end l = record {
  low : l.from ≤ l.end;
  high : l.end ≤ l.limit;
  each : (k : ℕ) → l.from ≤ k → k < l.end → is_in_class l.class (slice_index l.text k) ≡ true;
}

abbrev pub decreases-loop-end : goal.decreases-loop-end
decreases-loop-end l = l.limit - l.end
