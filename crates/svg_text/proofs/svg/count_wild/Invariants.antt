use Rattle.std.proofs.Common.{◌≡◌, ◌+◌, ◌≤◌, length}
use Rattle.svg_text.specs.SvgTexts.{count_wild}
use Rattle.svg_text.proofs.svg.count_wild.Given as goal

abbrev pub invariant-loop-rest : goal.invariant-loop-rest
invariant-loop-rest l = record {
  few : l.count + length l.rest ≤ length l.receives;
  counted : l.count + count_wild l.rest ≡ count_wild l.receives;
}

abbrev pub decreases-loop-rest : goal.decreases-loop-rest
decreases-loop-rest l = length l.rest
