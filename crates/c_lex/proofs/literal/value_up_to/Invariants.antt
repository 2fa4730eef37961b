use Rattle.std.proofs.Common.{◌≡◌, ◌≤◌, take}
use Rattle.c_lex.specs.declared.limits.TheConstants.{GREATEST_LITERAL}
use Rattle.std.specs.Str.Parse.{AllDigits, digits_value}
use Rattle.c_lex.proofs.literal.value_up_to.Given as goal

abbrev pub invariant-loop-byte : goal.invariant-loop-byte
invariant-loop-byte l = record {
  digits : AllDigits l.base (take l.byte-index l.digits);
  value : l.value ≡ digits_value l.base (take l.byte-index l.digits);
  small : l.value ≤ GREATEST_LITERAL;
}
