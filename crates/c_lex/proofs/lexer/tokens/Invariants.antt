use Rattle.std.proofs.Common.{◌≤◌, ◌+◌, ◌-◌, ◌*◌, false, cond, length}
use Rattle.c_lex.specs.Readings.{LexicalReading, ReadsTokens}
use Rattle.c_lex.proofs.Laws.{after}
use Rattle.c_lex.proofs.lexer.tokens.Given as goal

-- whatever is read from here completes what was found
abbrev pub invariant-loop-at : goal.invariant-loop-at
invariant-loop-at l = record {
  inside : l.at ≤ length l.text;
  onward : (reading : LexicalReading) → ReadsTokens l.text l.on_define l.at reading → ReadsTokens l.text false 0 (after l.found reading);
}

abbrev pub decreases-loop-at : goal.decreases-loop-at
decreases-loop-at l = 2 * (length l.text - l.at) + cond l.on_define 1 0
