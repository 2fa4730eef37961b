use Rattle.std.proofs.Common.{◌+◌, ◌≡◌, ◌++◌, ◌<◌, ◌≤◌, length, drop}
use Rattle.wiz_base.specs.Decimals.{decimal_text}
use Rattle.wiz_base.proofs.number.fill_decimal.Given as goal

abbrev pub invariant-loop-left : goal.invariant-loop-left
invariant-loop-left l = record {
  within : l.at < length l.room;
  fits : length (decimal_text l.left) ≤ l.at;
  written : decimal_text l.left ++ drop (l.at + 1) l.room ≡ decimal_text l.fn.value;
}

abbrev pub decreases-loop-left : goal.decreases-loop-left
decreases-loop-left l = l.left
