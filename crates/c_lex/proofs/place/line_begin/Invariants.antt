use Rattle.std.proofs.Common.{◌≢◌, ◌≤◌, ◌<◌, ℕ, slice_index}
use Rattle.c_lex.proofs.place.line_begin.Given as goal

abbrev pub invariant-loop-begin : goal.invariant-loop-begin
invariant-loop-begin l = record {
  before : l.begin ≤ l.place;
  same_line : (k : ℕ) → l.begin ≤ k → k < l.place → slice_index l.text k ≢ 10;
}

abbrev pub decreases-loop-begin : goal.decreases-loop-begin
decreases-loop-begin l = l.begin
