-- The typed form of simple statements, declarations, statements and blocks, or their faults. (ISO C, "Statements and blocks", "Declarations".)
use Rattle.std.specs.Prelude.{◌∷◌, ℕ, Bool, true, false, List, [], length, Option, Some, None}
use Rattle.c_lex.specs.declared.fault.Why.TheVariants.{WrongType}
use Rattle.c_grammar.specs.declared.terminal.Span.{Span}
use Rattle.c_grammar.specs.declared.terminal.Symbol.{Symbol}
use Rattle.c_grammar.specs.Tree as t
use Rattle.c_names.specs.declared.kind.VariableKind.{VariableKind}
use Rattle.c_names.specs.declared.kind.VariableKind.TheVariants.{Int}
use Rattle.c_program.specs.Tree as p
use Rattle.c_scope.specs.Constants.{length_faults, length_of}
use Rattle.c_scope.specs.Kinds.{kind_of_symbol, place_first_token}
use Rattle.c_scope.specs.Least.{fault, fault_unless}
use Rattle.c_scope.specs.Scopes.{Env, opened, token_bytes, twice_faults}
use Rattle.c_scope.specs.Signatures.{listed}
use Rattle.c_scope.specs.Typing.{Typing, typed, also, both, four, onto, three}
use Rattle.c_scope.specs.declared.meaning.ExprKind.TheVariants.{Of, Nothing}
use Rattle.c_scope.specs.declared.meaning.Entity.{Entity}
use Rattle.c_type_expr.specs.Calls.{right_first_token}
use Rattle.c_type_stmt.specs.Declarations.{after_item, after_part, after_start, begins_with, begun_takes, braces_faults, can_begin, declared_entity}
use Rattle.c_type_stmt.specs.Assignments.{is_plain_assign, is_assignable, is_int_lvalue, lvalue_kind, lvalue_takes, one, update_of}
use Rattle.c_type_expr.specs.ExprTyping.{int_typing, place_typing}
use Rattle.c_type_expr.specs.CallTyping.{call_typing, right_typing}

-- ---- assignments and calls

-- a place that is assigned to
abbrev pub goal_typing : Env → t.Place → Typing p.TypedPlace
goal_typing env place = also (fault_unless (is_assignable (lvalue_kind env place)) (place_first_token place) WrongType) (place_typing env place)

-- a place whose int is changed
abbrev pub int_goal_typing : Env → t.Place → Typing p.TypedPlace
int_goal_typing env place = also (fault_unless (is_int_lvalue (lvalue_kind env place)) (place_first_token place) WrongType) (place_typing env place)

-- `=`, or an operator and `=`
abbrev pub assign_typing : Env → Bool → t.Place → Symbol → t.Right → Typing p.TypedSimple
assign_typing env true place operator right = both p.set (goal_typing env place) (right_typing env (lvalue_takes (lvalue_kind env place)) right)
assign_typing env false place operator right =
    both (λ goal value. p.update goal (update_of operator) value) (int_goal_typing env place) (right_typing env (Of Int) right)

-- `++` or `--`, on either side
abbrev pub step_by_one_typing : Env → Symbol → t.Place → Typing p.TypedSimple
step_by_one_typing env operator place = onto (λ goal. p.update goal (update_of operator) one) (int_goal_typing env place)

-- what needs a `;`
abbrev pub simple_typing : Env → t.Simple → Typing p.TypedSimple
simple_typing env (t.assign place operator at right) = assign_typing env (is_plain_assign operator) place operator right
simple_typing env (t.after place operator at) = step_by_one_typing env operator place
simple_typing env (t.before operator at place) = step_by_one_typing env operator place
simple_typing env (t.invoke call) = call_typing env call

-- ---- declarations

-- how many cells a declared name has in brackets
abbrev pub length_typing : Env → t.Place → Typing (Option ℕ)
length_typing env (t.whole name) = typed None
length_typing env (t.cell name opening length closing) = also (length_faults env length) (typed (Some (length_of env length)))

-- the values in braces
abbrev pub values_typing : Env → List t.Expr → Typing (List p.TypedExpr)
values_typing env [] = typed []
values_typing env (e ∷ es) = both ◌∷◌ (int_typing env e) (values_typing env es)

-- how a variable begins
abbrev pub initial_typing : Env → Span → Entity → Option t.Initializer → Typing p.TypedInitializer
initial_typing env name entity None = typed p.no_initial
initial_typing env name entity (Some (t.begun mark right)) =
    also (fault_unless (can_begin (begins_with entity)) name WrongType) (onto p.right (right_typing env (begun_takes (begins_with entity)) right))
initial_typing env name entity (Some (t.braced mark opening values closing)) =
    also (braces_faults name entity (length (listed values))) (onto p.values (values_typing env (listed values)))

-- one variable: a new name, which stands in its own initializer and not in its own length
abbrev pub item_typing : Env → VariableKind → t.InitDeclarator → Typing p.TypedInitDeclarator
item_typing env kind item =
    let name = place_first_token item.place in
    let begun = initial_typing (after_item env kind item) name (declared_entity env kind item.place) item.initial in
    also (twice_faults env name) (
    both (λ length initial. record { name = token_bytes env.text name; kind = kind; length = length; initial = initial })
    (length_typing env item.place) begun
    )

-- variables of one kind, each visible in those behind it, also where it is faulty
abbrev pub items_typing : Env → VariableKind → List t.InitDeclarator → Typing (List p.TypedInitDeclarator)
items_typing env kind [] = typed []
items_typing env kind (item ∷ items) = both ◌∷◌ (item_typing env kind item) (items_typing (after_item env kind item) kind items)

-- a declaration
abbrev pub declaration_typing : Env → t.Declaration → Typing (List p.TypedInitDeclarator)
declaration_typing env declaration = items_typing env (kind_of_symbol declaration.kind) (listed declaration.items)

-- ---- parts of statements

-- what is given back: a function gives an int, or nothing
abbrev pub return_typing : Env → Bool → Option t.Right → Typing (Option p.TypedRight)
return_typing env gives None = typed None
return_typing env true (Some right) = onto Some (right_typing env (Of Int) right)
return_typing env false (Some right) = also (fault (right_first_token right) WrongType) (onto Some (right_typing env Nothing right))

-- how a `for` begins
abbrev pub start_typing : Env → t.ForStart → Typing p.TypedForStart
start_typing env t.no_start = typed p.no_start
start_typing env (t.declared_start declaration) = onto p.declared_start (declaration_typing env declaration)
start_typing env (t.simple_start simple) = onto p.simple_start (simple_typing env simple)

-- the test of a `for`
abbrev pub test_typing : Env → Option t.Expr → Typing (Option p.TypedExpr)
test_typing env None = typed None
test_typing env (Some test) = onto Some (int_typing env test)

-- the step of a `for`
abbrev pub step_typing : Env → Option t.Simple → Typing (Option p.TypedSimple)
step_typing env None = typed None
step_typing env (Some step) = onto Some (simple_typing env step)

-- ---- statements

-- what may stand in a loop alone
abbrev pub in_loop : Bool → Span → p.TypedStmt → Typing p.TypedStmt
in_loop loops keyword stmt = also (fault_unless loops keyword WrongType) (typed stmt)

-- `gives`: the function gives an int; `loops`: a loop stands around
abbrev mutual
  pub stmt_typing : Env → Bool → Bool → t.Stmt → Typing p.TypedStmt
  stmt_typing env gives loops (t.block opening parts closing) = onto p.block (parts_typing (opened env) gives loops parts)
  stmt_typing env gives loops (t.empty at) = typed p.empty
  stmt_typing env gives loops (t.simple simple end) = onto p.simple (simple_typing env simple)
  stmt_typing env gives loops (t.break keyword end) = in_loop loops keyword p.break
  stmt_typing env gives loops (t.continue keyword end) = in_loop loops keyword p.continue
  stmt_typing env gives loops (t.return keyword value end) = onto p.return (return_typing env gives value)
  stmt_typing env gives loops (t.if_only keyword opening test closing taken) =
      both p.if_only (int_typing env test) (stmt_typing env gives loops taken)
  stmt_typing env gives loops (t.if_else keyword opening test closing taken else_keyword spared) =
      three p.if_else (int_typing env test) (stmt_typing env gives loops taken) (stmt_typing env gives loops spared)
  stmt_typing env gives loops (t.while keyword opening test closing body) = both p.while (int_typing env test) (stmt_typing env gives true body)
  stmt_typing env gives loops (t.do_while keyword body while_keyword opening test closing end) =
      both p.do_while (stmt_typing env gives true body) (int_typing env test)
  stmt_typing env gives loops (t.for keyword opening start start_end test test_end step closing body) =
      let inner = after_start (opened env) start in
      four p.for (start_typing (opened env) start) (test_typing inner test) (step_typing inner step) (stmt_typing inner gives true body)

  -- what a block holds
  pub part_typing : Env → Bool → Bool → t.Part → Typing p.TypedPart
  part_typing env gives loops (t.declare declaration end) = onto p.declare (declaration_typing env declaration)
  part_typing env gives loops (t.stmt inner) = onto p.stmt (stmt_typing env gives loops inner)

  -- the parts of a block, each with what those before it declare, also where they are faulty
  pub parts_typing : Env → Bool → Bool → t.Parts → Typing p.TypedParts
  parts_typing env gives loops t.no_part = typed p.no_part
  parts_typing env gives loops (t.part first others) = both p.part (part_typing env gives loops first) (parts_typing (after_part env first) gives loops others)
