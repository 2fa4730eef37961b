use Rattle.std.proofs.Common.{◌≡◌, ◌≤◌, ◌+◌, ◌-◌, ℕ, length}
use Rattle.c_lex.specs.Texts.{Inside, character_length}
use Rattle.c_lex.proofs.lexeme.inside_end.Given as goal

-- whatever ends the characters from here ends those from the beginning
abbrev pub invariant-loop-more : goal.invariant-loop-more
invariant-loop-more l = record {
  low : l.from ≤ l.at;
  high : l.at + l.more ≤ length l.text;
  more : l.more ≡ character_length l.text l.at;
  onward : (end : ℕ) → Inside l.text l.at end → Inside l.text l.from end;
}

abbrev pub decreases-loop-more : goal.decreases-loop-more
decreases-loop-more l = length l.text - l.at
