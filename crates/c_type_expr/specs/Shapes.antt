-- What an argument is written as, where it may name cells.
use Rattle.std.specs.Prelude.{Option, Some, None}
use Rattle.c_grammar.specs.declared.terminal.Span.{Span}
use Rattle.c_grammar.specs.declared.terminal.Symbol.TheVariants as w
use Rattle.c_grammar.specs.Tree as t

-- the name that an expression is
abbrev pub name_alone : t.Expr → Option Span
name_alone (t.read (t.whole name)) = Some name
name_alone _ = None

-- the name that an argument is
abbrev pub name_given : t.Argument → Option Span
name_given (t.value e) = name_alone e
name_given _ = None

-- a name, and the one operand that is added to it
abbrev pub sum_base : Option Span → t.Links → Option (Span × t.Expr)
sum_base (Some name) (t.link w.Plus at operand t.no_link) = Some (name, operand)
sum_base _ _ = None

-- the name and the operand of a sum of two
abbrev pub array_sum : t.Expr → Option (Span × t.Expr)
array_sum (t.chain level first links) = sum_base (name_alone first) links
array_sum _ = None
