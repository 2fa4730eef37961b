use Rattle.std.proofs.Common.{◌≡◌, ◌≤◌, ◌<◌, ◌-◌, ℕ, false, length, slice_index}
use Rattle.run_drawing.specs.Choices.{is_untaken}
use Rattle.run_drawing.specs.inside.Scenes.{basis_of}
use Rattle.run_drawing.proofs.choices.skip.Given as goal

abbrev pub invariant-loop-count : goal.invariant-loop-count
invariant-loop-count l = record {
  from : l.from ≤ l.count;
  taken : (k : ℕ) → l.from ≤ k → k < l.count → k < length l.sent → is_untaken (basis_of l.scene) l.post (slice_index l.sent k) ≡ false;
}

abbrev pub decreases-loop-count : goal.decreases-loop-count
decreases-loop-count l = length l.sent - l.count
