-- What the symbols of the grammar are. (ISO C, "Expressions".)
use Rattle.std.specs.Prelude.{◌==◌, Bool, true, false, not, ℕ}
use Rattle.c_grammar.specs.declared.limits.TheConstants.{CONDITIONAL_LEVEL}
use Rattle.c_grammar.specs.declared.terminal.Symbol.{Symbol}
use Rattle.c_grammar.specs.declared.terminal.Symbol.TheVariants as w

-- the level of an operator: 1 binds the tightest, `?` the loosest; 0 is for other symbols
abbrev pub level_of : Symbol → ℕ
level_of w.Times = 1
level_of w.Divide = 1
level_of w.Remainder = 1
level_of w.Plus = 2
level_of w.Minus = 2
level_of w.ShiftLeft = 3
level_of w.ShiftRight = 3
level_of w.Less = 4
level_of w.AtMost = 4
level_of w.Greater = 4
level_of w.AtLeast = 4
level_of w.Equal = 5
level_of w.NotEqual = 5
level_of w.And = 6
level_of w.Xor = 7
level_of w.Or = 8
level_of w.LogicalAnd = 9
level_of w.LogicalOr = 10
level_of w.Question = CONDITIONAL_LEVEL
level_of _ = 0

-- may stand before an operand alone
abbrev pub is_sign : Symbol → Bool
is_sign w.Minus = true
is_sign w.Plus = true
is_sign w.Not = true
is_sign w.Complement = true
is_sign _ = false

-- an assignment operator
abbrev pub is_assign : Symbol → Bool
is_assign w.Assign = true
is_assign w.PlusAssign = true
is_assign w.MinusAssign = true
is_assign w.TimesAssign = true
is_assign w.DivideAssign = true
is_assign w.RemainderAssign = true
is_assign w.AndAssign = true
is_assign w.OrAssign = true
is_assign w.XorAssign = true
is_assign w.ShiftLeftAssign = true
is_assign w.ShiftRightAssign = true
is_assign _ = false

-- `++` and `--`
abbrev pub is_step : Symbol → Bool
is_step w.Increment = true
is_step w.Decrement = true
is_step _ = false

-- the type of a declaration
abbrev pub is_kind : Symbol → Bool
is_kind w.Int = true
is_kind w.Status = true
is_kind w.Request = true
is_kind w.Communicator = true
is_kind _ = false

-- what a function answers
abbrev pub is_result : Symbol → Bool
is_result w.Int = true
is_result w.Void = true
is_result _ = false

-- the place in the list of symbols
abbrev pub symbol_code : Symbol → ℕ
symbol_code w.Name = 0
symbol_code w.Number = 1
symbol_code w.Text = 2
symbol_code w.Define = 3
symbol_code w.EndLine = 4
symbol_code w.Int = 5
symbol_code w.Void = 6
symbol_code w.Char = 7
symbol_code w.Status = 8
symbol_code w.Request = 9
symbol_code w.Communicator = 10
symbol_code w.If = 11
symbol_code w.Else = 12
symbol_code w.While = 13
symbol_code w.Do = 14
symbol_code w.For = 15
symbol_code w.Break = 16
symbol_code w.Continue = 17
symbol_code w.Return = 18
symbol_code w.OpenParen = 19
symbol_code w.CloseParen = 20
symbol_code w.OpenBrace = 21
symbol_code w.CloseBrace = 22
symbol_code w.OpenBracket = 23
symbol_code w.CloseBracket = 24
symbol_code w.Semicolon = 25
symbol_code w.Comma = 26
symbol_code w.Dot = 27
symbol_code w.Question = 28
symbol_code w.Colon = 29
symbol_code w.Assign = 30
symbol_code w.PlusAssign = 31
symbol_code w.MinusAssign = 32
symbol_code w.TimesAssign = 33
symbol_code w.DivideAssign = 34
symbol_code w.RemainderAssign = 35
symbol_code w.AndAssign = 36
symbol_code w.OrAssign = 37
symbol_code w.XorAssign = 38
symbol_code w.ShiftLeftAssign = 39
symbol_code w.ShiftRightAssign = 40
symbol_code w.Increment = 41
symbol_code w.Decrement = 42
symbol_code w.LogicalOr = 43
symbol_code w.LogicalAnd = 44
symbol_code w.Or = 45
symbol_code w.Xor = 46
symbol_code w.And = 47
symbol_code w.Equal = 48
symbol_code w.NotEqual = 49
symbol_code w.Less = 50
symbol_code w.AtMost = 51
symbol_code w.Greater = 52
symbol_code w.AtLeast = 53
symbol_code w.ShiftLeft = 54
symbol_code w.ShiftRight = 55
symbol_code w.Plus = 56
symbol_code w.Minus = 57
symbol_code w.Times = 58
symbol_code w.Divide = 59
symbol_code w.Remainder = 60
symbol_code w.Not = 61
symbol_code w.Complement = 62

-- the symbol y is x
abbrev pub is : Symbol → Symbol → Bool
is x y = symbol_code y == symbol_code x

-- the symbol y is another than x
abbrev pub isnt : Symbol → Symbol → Bool
isnt x y = not (is x y)

-- an expression may begin so
abbrev pub starts_expr : Symbol → Bool
starts_expr w.Number = true
starts_expr w.Name = true
starts_expr w.OpenParen = true
starts_expr w.Minus = true
starts_expr w.Plus = true
starts_expr w.Not = true
starts_expr w.Complement = true
starts_expr _ = false

-- a statement may begin so
abbrev pub starts_stmt : Symbol → Bool
starts_stmt w.OpenBrace = true
starts_stmt w.Semicolon = true
starts_stmt w.Name = true
starts_stmt w.Increment = true
starts_stmt w.Decrement = true
starts_stmt w.Break = true
starts_stmt w.Continue = true
starts_stmt w.Return = true
starts_stmt w.If = true
starts_stmt w.While = true
starts_stmt w.Do = true
starts_stmt w.For = true
starts_stmt _ = false

-- a declaration or a statement may begin so
abbrev pub starts_part : Symbol → Bool
starts_part w.Int = true
starts_part w.Status = true
starts_part w.Request = true
starts_part w.Communicator = true
starts_part x = starts_stmt x
