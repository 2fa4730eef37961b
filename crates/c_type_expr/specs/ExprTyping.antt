-- Typing of expressions, of arguments, and of calls of the text's functions: the typed form, or the faults. (ISO C, "Expressions".)
-- Beside a name without a meaning a fault is told if and only if it would be one whatever that name meant.
use Rattle.std.specs.Prelude.{◌==◌, ℕ, pos, negsuc, List, [], ◌∷◌, length, if◌then◌else◌, slice_get}
use Rattle.c_lex.specs.declared.fault.Why.TheVariants.{Unknown, WrongType, WrongCount, LeftOut}
use Rattle.c_grammar.specs.declared.terminal.Span.{Span}
use Rattle.c_grammar.specs.declared.terminal.Symbol.TheVariants as w
use Rattle.c_grammar.specs.Tree as t
use Rattle.c_names.specs.declared.function.ArgumentKind.{ArgumentKind}
use Rattle.c_names.specs.declared.function.ArgumentKind.TheVariants as k
use Rattle.c_names.specs.declared.kind.VariableKind.{VariableKind}
use Rattle.c_names.specs.declared.kind.VariableKind.TheVariants.{Int, Status, Communicator}
use Rattle.c_names.specs.declared.predefined.Predefined.TheVariants as p
use Rattle.c_program.specs.Tree as pure
use Rattle.c_program.specs.Tree.{TypedArgument, TypedExpr, FunctionCall, TypedLinks, TypedPlace, Reference}
use Rattle.c_program.specs.declared.expr.Field.{Field}
use Rattle.c_scope.specs.Constants.{operator_of, unary_of}
use Rattle.c_type_expr.specs.Operands.{field_faults, operand_faults, field_of}
use Rattle.c_scope.specs.Kinds.{first_token, is_same_kind, kind_faults, kind_of, place_first_token, place_kind}
use Rattle.c_scope.specs.Literals.{literal_at}
use Rattle.c_scope.specs.Scopes.{Env, meaning, token_bytes}
use Rattle.c_scope.specs.Typing.{Typing, typed, also, behind, both, onto, refused, three, unfit}
use Rattle.c_scope.specs.Variables.{variable}
use Rattle.c_scope.specs.declared.meaning.ExprKind.{ExprKind}
use Rattle.c_scope.specs.declared.meaning.ExprKind.TheVariants.{Of}
use Rattle.c_scope.specs.declared.meaning.Meaning.{Meaning}
use Rattle.c_scope.specs.declared.meaning.Meaning.TheVariants as m
use Rattle.c_scope.specs.declared.meaning.Entity.TheVariants as d
use Rattle.c_type_expr.specs.Calls.{signature_takes}

-- ---- names

-- a name alone: a value, or what its variable has; a name of something else is told where a kind is wanted
abbrev pub name_typing : Env → Span → Meaning → Typing TypedExpr
name_typing env name (m.Known (p.Number value)) = typed (pure.number value)
name_typing env name (m.Known (p.Communicator number)) = typed (pure.number number)
name_typing env name (m.Known p.NullRequest) = typed (pure.number (negsuc 0))
name_typing env name (m.Declared (d.Define value)) = typed (pure.number value)
name_typing env name m.LeftOut = refused name LeftOut
name_typing env name m.Unknown = refused name Unknown
name_typing env name _ = typed (pure.read (pure.whole (variable env name)))

-- a name as a place
abbrev pub whole_typing : Env → Span → Meaning → Typing TypedPlace
whole_typing env name m.LeftOut = refused name LeftOut
whole_typing env name m.Unknown = refused name Unknown
whole_typing env name _ = typed (pure.whole (variable env name))

-- a name with an index, by the number of its array
abbrev pub indexed_typing : Env → Span → Meaning → Typing ℕ
indexed_typing env name (m.Declared (d.Array kind length)) = typed (variable env name)
indexed_typing env name (m.Declared d.ArrayParameter) = typed (variable env name)
indexed_typing env name meant = unfit name name meant

-- ---- expressions

-- an expression's typing where a kind is wanted; another kind is told at its first token
abbrev pub as_kind : Env → ExprKind → t.Expr → Typing TypedExpr → Typing TypedExpr
as_kind env wanted e typing = also (kind_faults wanted (kind_of env e) (first_token e)) typing

-- where an int is wanted
abbrev pub as_int : Env → t.Expr → Typing TypedExpr → Typing TypedExpr
as_int env e typing = as_kind env (Of Int) e typing

-- a place's typing where a status is wanted
abbrev pub as_status : Env → t.Place → Typing TypedPlace → Typing TypedPlace
as_status env place typing = also (kind_faults (Of Status) (place_kind env place) (place_first_token place)) typing

-- the field of a place of a kind
abbrev pub field_typing : Env → ExprKind → Span → Typing Field
field_typing env kind name = also (field_faults env kind name) (typed (field_of (token_bytes env.text name)))

abbrev mutual
  -- an expression, of whatever kind
  pub expr_typing : Env → t.Expr → Typing TypedExpr
  expr_typing env (t.number at) = typed (pure.number (pos (literal_at env.text at)))
  expr_typing env (t.read (t.whole name)) = name_typing env name (meaning env name)
  expr_typing env (t.read place) = onto pure.read (place_typing env place)
  expr_typing env (t.field place dot name) = both pure.field (as_status env place (place_typing env place)) (field_typing env (place_kind env place) name)
  expr_typing env (t.paren opening inner closing) = as_int env inner (expr_typing env inner)
  expr_typing env (t.unary sign at operand) = onto (pure.signed (unary_of sign)) (as_int env operand (expr_typing env operand))
  expr_typing env (t.chain level first links) = both pure.chain (expr_typing env first) (links_typing env (kind_of env first) (first_token first) links)
  expr_typing env (t.choice test question taken colon spared) =
      three pure.choice (as_int env test (expr_typing env test)) (as_int env taken (expr_typing env taken)) (as_int env spared (expr_typing env spared))

  -- a place
  pub place_typing : Env → t.Place → Typing TypedPlace
  place_typing env (t.whole name) = whole_typing env name (meaning env name)
  place_typing env (t.cell name opening index closing) =
      both pure.element (indexed_typing env name (meaning env name)) (as_int env index (expr_typing env index))

  -- operators and operands, by the left operand's kind and first token
  pub links_typing : Env → ExprKind → Span → t.Links → Typing TypedLinks
  links_typing env left left_at t.no_link = typed pure.no_link
  links_typing env left left_at (t.link operator at operand rest) =
      both (pure.link (operator_of operator))
      (also (operand_faults operator left left_at (kind_of env operand) (first_token operand)) (expr_typing env operand))
      (links_typing env (Of Int) left_at rest)

-- an expression where a kind is wanted
abbrev pub wanted_typing : Env → ExprKind → t.Expr → Typing TypedExpr
wanted_typing env wanted e = as_kind env wanted e (expr_typing env e)

-- an expression that is an int
abbrev pub int_typing : Env → t.Expr → Typing TypedExpr
int_typing env e = as_int env e (expr_typing env e)

-- ---- arguments

-- an argument that is not what is wanted, whatever a name without a meaning in it means: at its first token
abbrev pub misfit_typing : {A : Type 0} → Env → t.Argument → Typing A
misfit_typing env (t.text at) = refused at WrongType
misfit_typing env (t.address mark place) = refused mark WrongType
misfit_typing env (t.value e) = behind (expr_typing env e) (refused (first_token e) WrongType)

-- an expression of a kind
abbrev pub value_typing : Env → ExprKind → t.Argument → Typing TypedExpr
value_typing env wanted (t.value e) = wanted_typing env wanted e
value_typing env wanted given = misfit_typing env given

-- the variable of a name that has cells of a kind where cells of another are wanted
abbrev pub cells_typing : Env → VariableKind → VariableKind → Span → Span → Typing ℕ
cells_typing env wanted kind at name = if is_same_kind wanted kind then typed (variable env name) else refused at WrongType

-- the array of a name, with cells of a kind
abbrev pub array_typing : Env → VariableKind → Span → Span → Meaning → Typing ℕ
array_typing env wanted at name (m.Declared (d.Array kind length)) = cells_typing env wanted kind at name
array_typing env wanted at name (m.Declared d.ArrayParameter) = cells_typing env wanted Int at name
array_typing env wanted at name meant = unfit at name meant

-- the name of an array alone
abbrev pub alone_typing : Env → VariableKind → Span → Meaning → Typing Reference
alone_typing env wanted name meant = onto pure.all_of (array_typing env wanted name name meant)

-- the variable of a name after `&`, with cells of a kind
abbrev pub address_typing : Env → VariableKind → Span → Span → Meaning → Typing ℕ
address_typing env wanted mark name (m.Declared (d.Variable kind)) = cells_typing env wanted kind mark name
address_typing env wanted mark name (m.Declared d.ArgumentCount) = cells_typing env wanted Int mark name
address_typing env wanted mark name meant = array_typing env wanted mark name meant

-- a reference to cells of a kind: `&NAME`, `&NAME[e]`, `NAME`, `NAME + e`
abbrev pub reference_typing : Env → VariableKind → t.Argument → Typing Reference
reference_typing env wanted (t.address mark (t.whole name)) = onto pure.all_of (address_typing env wanted mark name (meaning env name))
reference_typing env wanted (t.address mark (t.cell name opening index closing)) =
    both pure.from (array_typing env wanted mark name (meaning env name)) (int_typing env index)
reference_typing env wanted (t.value (t.read (t.whole name))) = alone_typing env wanted name (meaning env name)
reference_typing env wanted (t.value (t.chain level (t.read (t.whole name)) (t.link w.Plus at operand t.no_link))) =
    both pure.from (array_typing env wanted name name (meaning env name)) (int_typing env operand)
reference_typing env wanted given = misfit_typing env given

-- `NULL`, or an array of ints
abbrev pub null_or_array : Env → Span → Meaning → Typing Reference
null_or_array env name (m.Known p.NoReference) = typed pure.nothing
null_or_array env name meant = alone_typing env Int name meant

-- the ints of a message: a reference, or `NULL`
abbrev pub buf_typing : Env → t.Argument → Typing Reference
buf_typing env (t.value (t.read (t.whole name))) = null_or_array env name (meaning env name)
buf_typing env given = reference_typing env Int given

-- ---- calls of the text's functions

-- an argument, by what it has to be; none fits a `char` parameter
abbrev pub argument_typing : Env → ArgumentKind → t.Argument → Typing TypedArgument
argument_typing env k.Number given = onto pure.by_value (value_typing env (Of Int) given)
argument_typing env k.Communicator given = onto pure.by_value (value_typing env (Of Communicator) given)
argument_typing env k.Buffer given = onto pure.by_reference (buf_typing env given)
argument_typing env _ given = misfit_typing env given

-- as many arguments as are taken
abbrev pub arguments_typing : Env → List ArgumentKind → List t.Argument → Typing (List TypedArgument)
arguments_typing env (kind ∷ kinds) (given ∷ more) = both (λ first others. first ∷ others) (argument_typing env kind given) (arguments_typing env kinds more)
arguments_typing env _ _ = typed []

-- the arguments of a call of a function; of a wrong number the number alone is told
abbrev pub counted_typing : Env → Span → List ArgumentKind → List t.Argument → Typing (List TypedArgument)
counted_typing env name takes given = if length given == length takes then arguments_typing env takes given else refused name WrongCount

-- a call of a function, by its number
abbrev pub function_typing : Env → Span → ℕ → List t.Argument → Typing FunctionCall
function_typing env name number given =
    onto (λ arguments. record { function = number; arguments = arguments }) (counted_typing env name (signature_takes (slice_get env.functions number)) given)
