-- Expressions of numbers, defines and predefined ints, as the lengths of arrays are. (ISO C, "Constant expressions".)
use Rattle.std.specs.Prelude.{◌++◌, ℕ, ℤ, pos, zero, suc, nat_le, if◌then◌else◌, List, [], Option, Some, None}
use Rattle.c_lex.specs.declared.fault.Why.TheVariants.{WrongType}
use Rattle.mpi_call.specs.Operations.{is_set}
use Rattle.c_grammar.specs.declared.terminal.Span.{Span}
use Rattle.c_grammar.specs.declared.terminal.Symbol.{Symbol}
use Rattle.c_grammar.specs.declared.terminal.Symbol.TheVariants as w
use Rattle.c_grammar.specs.Tree as t
use Rattle.c_names.specs.Operators.{applied, unary_applied}
use Rattle.c_names.specs.declared.operator.Operator.{Operator}
use Rattle.c_names.specs.declared.operator.Operator.TheVariants as o
use Rattle.c_names.specs.declared.operator.UnaryOperator.{UnaryOperator}
use Rattle.c_names.specs.declared.operator.UnaryOperator.TheVariants as s
use Rattle.c_names.specs.declared.predefined.Predefined.TheVariants as p
use Rattle.c_scope.specs.Least.{fault}
use Rattle.c_scope.specs.Kinds.{first_token}
use Rattle.c_scope.specs.Literals.{literal_at}
use Rattle.c_scope.specs.Scopes.{Env, meaning, name_faults}
use Rattle.c_scope.specs.declared.fault.TypingFault.{TypingFault}
use Rattle.c_scope.specs.declared.constant.TheConstants.{MOST_ELEMENTS}
use Rattle.c_scope.specs.declared.constant.Constant.{Constant}
use Rattle.c_scope.specs.declared.constant.Constant.TheVariants.{Value, NoValue, Variable, Nameless}
use Rattle.c_scope.specs.declared.meaning.Meaning.{Meaning}
use Rattle.c_scope.specs.declared.meaning.Meaning.TheVariants as m
use Rattle.c_scope.specs.declared.meaning.Entity.TheVariants as d

-- the operator of a word; no other word stands between two operands
abbrev pub operator_of : Symbol → Operator
operator_of w.LogicalOr = o.LogicalOr
operator_of w.LogicalAnd = o.LogicalAnd
operator_of w.Or = o.Or
operator_of w.Xor = o.Xor
operator_of w.And = o.And
operator_of w.Equal = o.Equal
operator_of w.NotEqual = o.NotEqual
operator_of w.Less = o.Less
operator_of w.AtMost = o.AtMost
operator_of w.Greater = o.Greater
operator_of w.AtLeast = o.AtLeast
operator_of w.ShiftLeft = o.ShiftLeft
operator_of w.ShiftRight = o.ShiftRight
operator_of w.Plus = o.Plus
operator_of w.Minus = o.Minus
operator_of w.Times = o.Times
operator_of w.Divide = o.Divide
operator_of _ = o.Remainder

-- the sign of a word; no other word stands before an operand
abbrev pub unary_of : Symbol → UnaryOperator
unary_of w.Minus = s.Minus
unary_of w.Plus = s.Plus
unary_of w.Not = s.Not
unary_of _ = s.Complement

-- what a name is in a constant expression: the number that it stands for, or a variable; a name without a meaning leaves it open
abbrev pub constant_meant : Meaning → Constant
constant_meant (m.Known (p.Number value)) = Value value
constant_meant (m.Declared (d.Define value)) = Value value
constant_meant m.LeftOut = Nameless
constant_meant m.Unknown = Nameless
constant_meant _ = Variable

-- what an operator gives, if it gives a value
abbrev pub or_no_value : Option ℤ → Constant
or_no_value (Some value) = Value value
or_no_value None = NoValue

-- a variable anywhere makes the whole variable, and a name without a meaning leaves it open
abbrev pub over : Constant → Constant → Constant → Constant
over Variable b whole = Variable
over a Variable whole = Variable
over Nameless b whole = Nameless
over a Nameless whole = Nameless
over a b whole = whole

-- `&&` and `||` need their right operand only where the left one does not decide
abbrev pub decided : Operator → ℤ → Constant
decided o.LogicalOr a = if is_set a then Value (pos 1) else NoValue
decided o.LogicalAnd a = if is_set a then NoValue else Value (pos 0)
decided _ a = NoValue

-- what an operator gives of two operands that are constants
abbrev pub joined_values : Operator → Constant → Constant → Constant
joined_values operator (Value a) (Value b) = or_no_value (applied operator a b)
joined_values operator (Value a) NoValue = decided operator a
joined_values operator a b = NoValue

-- what an operator gives of any two operands
abbrev pub joined_constants : Operator → Constant → Constant → Constant
joined_constants operator a b = over a b (joined_values operator a b)

-- what a sign gives of an operand
abbrev pub unary_constant : UnaryOperator → Constant → Constant
unary_constant sign (Value value) = Value (unary_applied sign value)
unary_constant sign other = other

-- `?:` needs the branch alone that its test takes
abbrev pub chosen_value : Constant → Constant → Constant → Constant
chosen_value (Value test) a b = if is_set test then a else b
chosen_value test a b = NoValue

-- what `?:` gives of its test and its two branches, of which none may be a variable
abbrev pub chosen_constant : Constant → Constant → Constant → Constant
chosen_constant test a b = over test (over a b (Value (pos 0))) (chosen_value test a b)

abbrev mutual
  -- the value of an expression, before the program runs
  pub constant_of : Env → t.Expr → Constant
  constant_of env (t.number at) = Value (pos (literal_at env.text at))
  constant_of env (t.read place) = place_constant env place
  constant_of env (t.field place dot name) = Variable
  constant_of env (t.paren opening inner closing) = constant_of env inner
  constant_of env (t.unary sign at operand) = unary_constant (unary_of sign) (constant_of env operand)
  constant_of env (t.chain level first links) = links_constant env (constant_of env first) links
  constant_of env (t.choice test question taken colon spared) = chosen_constant (constant_of env test) (constant_of env taken) (constant_of env spared)

  -- of a name
  pub place_constant : Env → t.Place → Constant
  place_constant env (t.whole name) = constant_meant (meaning env name)
  place_constant env (t.cell name opening index closing) = Variable

  -- of operators and operands behind a left operand
  pub links_constant : Env → Constant → t.Links → Constant
  links_constant env left t.no_link = left
  links_constant env left (t.link operator at operand rest) = links_constant env (joined_constants (operator_of operator) left (constant_of env operand)) rest

-- each name without a meaning, at the name
abbrev mutual
  pub unknown_name_faults : Env → t.Expr → List TypingFault
  unknown_name_faults env (t.number at) = []
  unknown_name_faults env (t.read place) = names_in_place env place
  unknown_name_faults env (t.field place dot name) = names_in_place env place
  unknown_name_faults env (t.paren opening inner closing) = unknown_name_faults env inner
  unknown_name_faults env (t.unary sign at operand) = unknown_name_faults env operand
  unknown_name_faults env (t.chain level first links) = unknown_name_faults env first ++ names_in_links env links
  unknown_name_faults env (t.choice test question taken colon spared) = (unknown_name_faults env test ++ unknown_name_faults env taken) ++ unknown_name_faults env spared

  -- those of a place
  pub names_in_place : Env → t.Place → List TypingFault
  names_in_place env (t.whole name) = name_faults (meaning env name) name
  names_in_place env (t.cell name opening index closing) = name_faults (meaning env name) name ++ unknown_name_faults env index

  -- those of operands
  pub names_in_links : Env → t.Links → List TypingFault
  names_in_links env t.no_link = []
  names_in_links env (t.link operator at operand rest) = unknown_name_faults env operand ++ names_in_links env rest

-- how many cells an array has; 0 if its length is none
abbrev pub length_from : Constant → ℕ
length_from (Value (pos n)) = if nat_le n MOST_ELEMENTS then n else 0
length_from other = 0

-- how many cells an array has, by the expression between its brackets
abbrev pub length_of : Env → t.Expr → ℕ
length_of env e = length_from (constant_of env e)

-- at the first token, an expression that gives no length; one with a name that has no meaning is told at the name
abbrev pub constant_faults : Constant → ℕ → Span → List TypingFault
constant_faults Nameless length at = []
constant_faults other zero at = fault at WrongType
constant_faults other (suc n) at = []

-- a name without a meaning, or, at the first token, what is no constant, or has no value from 1 to the greatest length
abbrev pub length_faults : Env → t.Expr → List TypingFault
length_faults env e = unknown_name_faults env e ++ constant_faults (constant_of env e) (length_of env e) (first_token e)
