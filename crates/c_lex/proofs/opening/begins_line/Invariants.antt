use Rattle.std.proofs.Common.{◌≡◌, ◌≤◌, length}
use Rattle.c_lex.specs.Openings.{begins_line}
use Rattle.c_lex.proofs.opening.begins_line.Given as goal

abbrev pub invariant-loop-from : goal.invariant-loop-from
invariant-loop-from l = record {
  within : l.from ≤ length l.text;
  same : begins_line l.text l.at ≡ begins_line l.text l.from;
}

abbrev pub decreases-loop-from : goal.decreases-loop-from
decreases-loop-from l = l.from
