use Rattle.std.proofs.Common.{◌≡◌, ◌≤◌, ◌<◌, ◌-◌, ℕ, false, length}
use Rattle.c_lex.specs.Comments.{closes}
use Rattle.c_lex.proofs.comment.first_close.Given as goal

abbrev pub invariant-loop-close : goal.invariant-loop-close
invariant-loop-close l = record {
  low : l.from ≤ l.close;
  each : (k : ℕ) → l.from ≤ k → k < l.close → closes l.text k ≡ false;
}

abbrev pub decreases-loop-close : goal.decreases-loop-close
decreases-loop-close l = length l.text - l.close
