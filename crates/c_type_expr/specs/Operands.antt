-- What operands and fields have to be. (ISO C, "Expressions".)
use Rattle.std.specs.Prelude.{◌++◌, ◌&&◌, ◌||◌, ℕ, Bool, true, false, List, [], if◌then◌else◌, codes}
use Rattle.std.specs.Str.{bytes_eq}
use Rattle.c_lex.specs.declared.fault.Why.TheVariants.{LeftOut}
use Rattle.c_grammar.specs.declared.terminal.Span.{Span}
use Rattle.c_grammar.specs.declared.terminal.Symbol.{Symbol}
use Rattle.c_grammar.specs.declared.terminal.Symbol.TheVariants as w
use Rattle.c_names.specs.declared.kind.VariableKind.TheVariants.{Int, Status}
use Rattle.c_scope.specs.Least.{fault_unless}
use Rattle.c_scope.specs.Kinds.{compares, kind_faults}
use Rattle.c_scope.specs.Scopes.{Env, token_bytes}
use Rattle.c_scope.specs.declared.fault.TypingFault.{TypingFault}
use Rattle.c_scope.specs.declared.meaning.ExprKind.{ExprKind}
use Rattle.c_scope.specs.declared.meaning.ExprKind.TheVariants.{Of}
use Rattle.c_program.specs.declared.expr.Field.{Field}
use Rattle.c_program.specs.declared.expr.Field.TheVariants.{Source, Tag}

-- `==` or `!=`
abbrev pub is_equality : Symbol → Bool
is_equality w.Equal = true
is_equality w.NotEqual = true
is_equality _ = false

-- handles may be compared; else both sides are ints, and what is no int stands at its first token
abbrev pub operand_faults : Symbol → ExprKind → Span → ExprKind → Span → List TypingFault
operand_faults operator left left_at right right_at =
    if is_equality operator && compares left right then []
    else kind_faults (Of Int) left left_at ++ kind_faults (Of Int) right right_at

-- a field that a status has; nothing is said where its place is no status
abbrev pub is_field : List ℕ → Bool
is_field name = bytes_eq name (codes "MPI_SOURCE") || bytes_eq name (codes "MPI_TAG")

-- a field that a status does not have; of what is no status the field is not asked
abbrev pub field_faults : Env → ExprKind → Span → List TypingFault
field_faults env (Of Status) name = fault_unless (is_field (token_bytes env.text name)) name LeftOut
field_faults env kind name = []

-- the field of a status by its name
abbrev pub field_of : List ℕ → Field
field_of name = if bytes_eq name (codes "MPI_SOURCE") then Source else Tag
