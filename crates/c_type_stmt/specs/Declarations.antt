-- What declarations declare, and how a variable may begin. (ISO C, "Declarations", "Initialization".)
use Rattle.std.specs.Prelude.{◌&&◌, ℕ, Bool, true, false, not, List, [], ◌∷◌, length, if◌then◌else◌, nat_lt}
use Rattle.c_lex.specs.declared.fault.Why.TheVariants.{WrongType, WrongCount}
use Rattle.c_grammar.specs.declared.terminal.Span.{Span}
use Rattle.c_grammar.specs.Tree as t
use Rattle.c_names.specs.declared.kind.VariableKind.{VariableKind}
use Rattle.c_names.specs.declared.kind.VariableKind.TheVariants.{Int, Status}
use Rattle.c_scope.specs.Least.{fault, fault_unless}
use Rattle.c_scope.specs.Constants.{length_of}
use Rattle.c_scope.specs.Kinds.{kind_of_symbol, place_first_token}
use Rattle.c_scope.specs.Signatures.{listed}
use Rattle.c_scope.specs.Scopes.{Env, declare}
use Rattle.c_scope.specs.declared.fault.TypingFault.{TypingFault}
use Rattle.c_scope.specs.declared.meaning.ExprKind.{ExprKind}
use Rattle.c_scope.specs.declared.meaning.ExprKind.TheVariants.{Of, Other, Nothing}
use Rattle.c_scope.specs.declared.meaning.Entity.{Entity}
use Rattle.c_scope.specs.declared.meaning.Entity.TheVariants as d

-- an array or one variable
abbrev pub declared_entity : Env → VariableKind → t.Place → Entity
declared_entity env kind (t.whole name) = d.Variable kind
declared_entity env kind (t.cell name opening length closing) = d.Array kind (length_of env length)

-- a name stands in its own initializer, and not in its own length
abbrev pub after_item : Env → VariableKind → t.InitDeclarator → Env
after_item env kind item = declare env (place_first_token item.place) (declared_entity env kind item.place)

-- what begins a variable; a status and an array have no one value
abbrev pub begins_with : Entity → ExprKind
begins_with (d.Variable Status) = Other
begins_with (d.Variable kind) = Of kind
begins_with _ = Other

-- whether a variable may begin with a value after `=`
abbrev pub can_begin : ExprKind → Bool
can_begin Other = false
can_begin _ = true

-- what that value has to be
abbrev pub begun_takes : ExprKind → ExprKind
begun_takes Other = Nothing
begun_takes kind = kind

-- the cells of an int array, where it has a length
abbrev pub is_int_array : Entity → Bool
is_int_array (d.Array Int length) = true
is_int_array _ = false

-- how many cells an array has
abbrev pub array_length : Entity → ℕ
array_length (d.Array kind length) = length
array_length _ = 0

-- values in braces: for the cells of an int array, and no more than it has
abbrev pub braces_faults : Span → Entity → ℕ → List TypingFault
braces_faults name entity count =
    if is_int_array entity
    then fault_unless (not (nat_lt 0 (array_length entity) && nat_lt (array_length entity) count)) name WrongCount
    else fault name WrongType

-- after variables of one kind
abbrev pub after_declarators : Env → VariableKind → List t.InitDeclarator → Env
after_declarators env kind [] = env
after_declarators env kind (item ∷ items) = after_declarators (after_item env kind item) kind items

-- after a declaration
abbrev pub after_declaration : Env → t.Declaration → Env
after_declaration env one = after_declarators env (kind_of_symbol one.kind) (listed one.items)

-- after what a `for` begins with
abbrev pub after_start : Env → t.ForStart → Env
after_start env (t.declared_start declaration) = after_declaration env declaration
after_start env _ = env

-- after a part of a block
abbrev pub after_part : Env → t.Part → Env
after_part env (t.declare declaration end) = after_declaration env declaration
after_part env (t.stmt inner) = env

-- after all parts of a block
abbrev pub after_parts : Env → t.Parts → Env
after_parts env t.no_part = env
after_parts env (t.part one others) = after_parts (after_part env one) others
