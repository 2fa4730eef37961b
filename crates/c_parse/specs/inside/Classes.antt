-- The symbols of a class.
use Rattle.std.specs.Prelude.{◌==◌, Bool}
use Rattle.c_grammar.specs.declared.terminal.Symbol.{Symbol}
use Rattle.c_grammar.specs.Symbols as symbols
use Rattle.c_parse.specs.declared.symbols.Class.{Class}
use Rattle.c_parse.specs.declared.symbols.Class.TheVariants.{Is, Isnt, Sign, Assign, Step, Kind, Outcome, Level}

-- the symbol is of this class
abbrev pub is_in : Class → Symbol → Bool
is_in (Is x) = symbols.is x
is_in (Isnt x) = symbols.isnt x
is_in Sign = symbols.is_sign
is_in Assign = symbols.is_assign
is_in Step = symbols.is_step
is_in Kind = symbols.is_kind
is_in Outcome = symbols.is_result
is_in (Level k) = λ x. symbols.level_of x == k
