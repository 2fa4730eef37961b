use Rattle.std.proofs.Common.{◌≡◌, ◌+◌, ◌≤◌, length}
use Rattle.svg_text.specs.SvgTexts.{count_raced}
use Rattle.svg_text.proofs.svg.count_raced.Given as goal

abbrev pub invariant-loop-rest : goal.invariant-loop-rest
invariant-loop-rest l = record {
  few : l.count + length l.rest ≤ length l.receives;
  counted : l.count + count_raced l.rest ≡ count_raced l.receives;
}

abbrev pub decreases-loop-rest : goal.decreases-loop-rest
decreases-loop-rest l = length l.rest
