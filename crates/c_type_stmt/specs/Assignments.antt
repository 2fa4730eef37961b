-- What may be assigned to, and what an assignment does. (ISO C, "Assignment operators".)
use Rattle.std.specs.Prelude.{Bool, true, false, pos}
use Rattle.c_grammar.specs.declared.terminal.Symbol.{Symbol}
use Rattle.c_grammar.specs.declared.terminal.Symbol.TheVariants as w
use Rattle.c_grammar.specs.Tree as t
use Rattle.c_names.specs.declared.kind.VariableKind.TheVariants.{Int, Status}
use Rattle.c_scope.specs.Kinds.{cell_kind, target_kind}
use Rattle.c_scope.specs.Scopes.{Env, meaning}
use Rattle.c_scope.specs.declared.meaning.ExprKind.{ExprKind}
use Rattle.c_scope.specs.declared.meaning.ExprKind.TheVariants.{Of, Element, Nothing}
use Rattle.c_names.specs.declared.operator.Operator.{Operator}
use Rattle.c_names.specs.declared.operator.Operator.TheVariants as o
use Rattle.c_program.specs.Tree as pure
use Rattle.c_program.specs.Tree.{TypedRight}

-- what may be assigned to: ints, communicators and requests, but no status, no whole array and no constant
abbrev pub lvalue_kind : Env → t.Place → ExprKind
lvalue_kind env (t.whole name) = target_kind (meaning env name)
lvalue_kind env (t.cell name opening index closing) = cell_kind (meaning env name)

-- whether a place of a kind may be assigned to; nothing is said of a name without a meaning
abbrev pub is_assignable : ExprKind → Bool
is_assignable (Of Status) = false
is_assignable (Of kind) = true
is_assignable Element = true
is_assignable Nothing = true
is_assignable _ = false

-- whether a place of a kind may hold an int
abbrev pub is_int_lvalue : ExprKind → Bool
is_int_lvalue (Of Int) = true
is_int_lvalue Element = true
is_int_lvalue Nothing = true
is_int_lvalue _ = false

-- what the right side has to be; nothing follows from a bad place
abbrev pub lvalue_takes : ExprKind → ExprKind
lvalue_takes (Of Status) = Nothing
lvalue_takes (Of kind) = Of kind
lvalue_takes _ = Nothing

-- `=`, and no operator before it
abbrev pub is_plain_assign : Symbol → Bool
is_plain_assign w.Assign = true
is_plain_assign _ = false

-- the operator of `operator=`, `++` or `--`; no other keyword stands there
abbrev pub update_of : Symbol → Operator
update_of w.PlusAssign = o.Plus
update_of w.Increment = o.Plus
update_of w.MinusAssign = o.Minus
update_of w.Decrement = o.Minus
update_of w.TimesAssign = o.Times
update_of w.DivideAssign = o.Divide
update_of w.RemainderAssign = o.Remainder
update_of w.AndAssign = o.And
update_of w.OrAssign = o.Or
update_of w.XorAssign = o.Xor
update_of w.ShiftLeftAssign = o.ShiftLeft
update_of _ = o.ShiftRight

-- what `++` and `--` add and take away
abbrev pub one : TypedRight
one = pure.value (pure.number (pos 1))
