use Rattle.std.proofs.Common.{length, ◌-◌, ◌≤◌}
use Rattle.wiz_base.specs.Readings.{AreDigits}
use Rattle.wiz_base.proofs.number.digits_end.Given as goal

abbrev pub invariant-loop-at : goal.invariant-loop-at
invariant-loop-at l = record {
  from : l.begin ≤ l.at;
  within : l.at ≤ length l.text;
  digits : AreDigits l.text l.begin l.at;
}

abbrev pub decreases-loop-at : goal.decreases-loop-at
decreases-loop-at l = length l.text - l.at
