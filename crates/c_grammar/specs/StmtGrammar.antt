-- The grammar of statements, functions and programs: what a tree spells. (ISO C, "Statements and blocks".)
use Rattle.std.specs.Prelude.{◌≡◌, true, false, Bool, List, [], ◌∷◌, length, Option, Some, None, if◌then◌else◌}
use Rattle.c_grammar.specs.declared.terminal.Symbol.{Symbol}
use Rattle.c_grammar.specs.declared.terminal.Symbol.TheVariants as w
use Rattle.c_grammar.specs.declared.terminal.Span.{Span}
use Rattle.c_grammar.specs.declared.terminal.Terminal.{Terminal}
use Rattle.c_grammar.specs.Tree as t
use Rattle.c_grammar.specs.Grammar.{at, spell, spell_place, IsExpr, IsPlace}
use Rattle.c_grammar.specs.Symbols.{is_assign, is_step, is_kind, is_result}

-- something that may be missing
abbrev pub spell_maybe : {A : Type 0} → (A → List Terminal → List Terminal) → Option A → List Terminal → List Terminal
spell_maybe one None rest = rest
spell_maybe one (Some a) rest = one a rest

-- if it is there it is good
abbrev pub IsMaybe : {A : Type 0} → (A → Type 0) → Option A → Type 0
IsMaybe Good None = Unit {0}
IsMaybe Good (Some a) = Good a

-- things one after the other
abbrev pub spell_list : {A : Type 0} → (A → List Terminal → List Terminal) → List A → List Terminal → List Terminal
spell_list one [] rest = rest
spell_list one (a ∷ more) rest = one a (spell_list one more rest)

-- each of the list is good
abbrev pub AreAll : {A : Type 0} → (A → Type 0) → List A → Type 0
AreAll Good [] = Unit {0}
AreAll Good (a ∷ more) = Good a × AreAll Good more

-- a terminal that has one symbol
abbrev pub spell_symbol : Symbol → Span → List Terminal → List Terminal
spell_symbol x p rest = at x p ∷ rest

-- a comma and what is after it
abbrev pub spell_after_comma : {A : Type 0} → (A → List Terminal → List Terminal) → Span × A → List Terminal → List Terminal
spell_after_comma one b rest = at w.Comma b.0 ∷ one b.1 rest

-- comma list = thing { "," thing }
abbrev pub spell_comma_list : {A : Type 0} → (A → List Terminal → List Terminal) → t.CommaList A → List Terminal → List Terminal
spell_comma_list one (t.comma_list a more) rest = one a (spell_list (spell_after_comma one) more rest)

-- each of them is good
abbrev pub IsCommaList : {A : Type 0} → (A → Type 0) → t.CommaList A → Type 0
IsCommaList Good (t.comma_list a more) = Good a × AreAll (λ b. Good b.1) more

-- argument = TEXT | "&" place | expression
abbrev pub spell_argument : t.Argument → List Terminal → List Terminal
spell_argument (t.text span) rest = at w.Text span ∷ rest
spell_argument (t.address mark place) rest = at w.And mark ∷ spell_place place rest
spell_argument (t.value expr) rest = spell expr rest

-- its place or expression is of the grammar
abbrev pub IsArgument : t.Argument → Type 0
IsArgument (t.text span) = Unit {0}
IsArgument (t.address mark place) = IsPlace place
IsArgument (t.value expr) = IsExpr expr

-- call = NAME "(" [ argument { "," argument } ] ")"
abbrev pub spell_call : t.WrittenCall → List Terminal → List Terminal
spell_call call rest =
    at w.Name call.name ∷ at w.OpenParen call.opening ∷ spell_maybe (spell_comma_list spell_argument) call.arguments (at w.CloseParen call.closing ∷ rest)

-- its arguments are of the grammar
abbrev pub IsCall : t.WrittenCall → Type 0
IsCall call = IsMaybe (IsCommaList IsArgument) call.arguments

-- right side = call | expression
abbrev pub spell_right : t.Right → List Terminal → List Terminal
spell_right (t.called call) rest = spell_call call rest
spell_right (t.valued expr) rest = spell expr rest

-- its call or expression is of the grammar
abbrev pub IsRight : t.Right → Type 0
IsRight (t.called call) = IsCall call
IsRight (t.valued expr) = IsExpr expr

-- simple statement = place assignment right-side | place ("++" | "--") | ("++" | "--") place | call
abbrev pub spell_simple : t.Simple → List Terminal → List Terminal
spell_simple (t.assign place operator span right) rest = spell_place place (at operator span ∷ spell_right right rest)
spell_simple (t.after place operator span) rest = spell_place place (at operator span ∷ rest)
spell_simple (t.before operator span place) rest = at operator span ∷ spell_place place rest
spell_simple (t.invoke call) rest = spell_call call rest

-- its parts are of the grammar, and the operator is one that may be there
abbrev pub IsSimple : t.Simple → Type 0
IsSimple (t.assign place operator span right) = IsPlace place × (is_assign operator ≡ true) × IsRight right
IsSimple (t.after place operator span) = IsPlace place × (is_step operator ≡ true)
IsSimple (t.before operator span place) = (is_step operator ≡ true) × IsPlace place
IsSimple (t.invoke call) = IsCall call

-- initial value = "=" ( right-side | "{" expression { "," expression } "}" )
abbrev pub spell_initial : t.Initializer → List Terminal → List Terminal
spell_initial (t.begun mark right) rest = at w.Assign mark ∷ spell_right right rest
spell_initial (t.braced mark opening values closing) rest =
    at w.Assign mark ∷ at w.OpenBrace opening ∷ spell_comma_list spell values (at w.CloseBrace closing ∷ rest)

-- its right side or its values are of the grammar
abbrev pub IsInitializer : t.Initializer → Type 0
IsInitializer (t.begun mark right) = IsRight right
IsInitializer (t.braced mark opening values closing) = IsCommaList IsExpr values

-- declared name = place [ initial value ]; a place with an index is an array with its length
abbrev pub spell_item : t.InitDeclarator → List Terminal → List Terminal
spell_item item rest = spell_place item.place (spell_maybe spell_initial item.initial rest)

-- its place and its initializer are of the grammar
abbrev pub IsItem : t.InitDeclarator → Type 0
IsItem item = IsPlace item.place × IsMaybe IsInitializer item.initial

-- declaration = ("int" | "MPI_Status" | "MPI_Request" | "MPI_Comm") item { "," item }
abbrev pub spell_declaration : t.Declaration → List Terminal → List Terminal
spell_declaration one rest = at one.kind one.at ∷ spell_comma_list spell_item one.items rest

-- it begins with a type, and its declarators are of the grammar
abbrev pub IsDeclaration : t.Declaration → Type 0
IsDeclaration one = (is_kind one.kind ≡ true) × IsCommaList IsItem one.items

-- how a for begins = [ declaration | simple statement ]
abbrev pub spell_start : t.ForStart → List Terminal → List Terminal
spell_start t.no_start rest = rest
spell_start (t.declared_start declaration) rest = spell_declaration declaration rest
spell_start (t.simple_start simple) rest = spell_simple simple rest

-- its declaration or simple statement is of the grammar
abbrev pub IsForStart : t.ForStart → Type 0
IsForStart t.no_start = Unit {0}
IsForStart (t.declared_start declaration) = IsDeclaration declaration
IsForStart (t.simple_start simple) = IsSimple simple

-- statement = block | ";" | simple ";" | "break" ";" | "continue" ";" | "return" [ right-side ] ";"
-- | "if" "(" expression ")" statement [ "else" statement ] | "while" "(" expression ")" statement
-- | "do" statement "while" "(" expression ")" ";" | "for" "(" start ";" [ expression ] ";" [ simple ] ")" statement
-- block = "{" { declaration ";" | statement } "}"
abbrev mutual
  -- what a statement spells
  pub spell_stmt : t.Stmt → List Terminal → List Terminal
  spell_stmt (t.block opening parts closing) rest = at w.OpenBrace opening ∷ spell_parts parts (at w.CloseBrace closing ∷ rest)
  spell_stmt (t.empty end) rest = at w.Semicolon end ∷ rest
  spell_stmt (t.simple simple end) rest = spell_simple simple (at w.Semicolon end ∷ rest)
  spell_stmt (t.break keyword end) rest = at w.Break keyword ∷ at w.Semicolon end ∷ rest
  spell_stmt (t.continue keyword end) rest = at w.Continue keyword ∷ at w.Semicolon end ∷ rest
  spell_stmt (t.return keyword value end) rest = at w.Return keyword ∷ spell_maybe spell_right value (at w.Semicolon end ∷ rest)
  spell_stmt (t.if_only keyword opening test closing branch) rest =
      at w.If keyword ∷ at w.OpenParen opening ∷ spell test (at w.CloseParen closing ∷ spell_stmt branch rest)
  spell_stmt (t.if_else keyword opening test closing branch else_keyword other) rest =
      at w.If keyword ∷ at w.OpenParen opening ∷ spell test (at w.CloseParen closing ∷ spell_stmt branch (at w.Else else_keyword ∷ spell_stmt other rest))
  spell_stmt (t.while keyword opening test closing body) rest =
      at w.While keyword ∷ at w.OpenParen opening ∷ spell test (at w.CloseParen closing ∷ spell_stmt body rest)
  spell_stmt (t.do_while keyword body while_keyword opening test closing end) rest =
      at w.Do keyword ∷ spell_stmt body (at w.While while_keyword ∷ at w.OpenParen opening ∷ spell test (at w.CloseParen closing ∷ at w.Semicolon end ∷ rest))
  spell_stmt (t.for keyword opening start start_end test test_end step closing body) rest =
      at w.For keyword ∷ at w.OpenParen opening ∷ spell_start start (at w.Semicolon start_end ∷ spell_maybe spell test
      (at w.Semicolon test_end ∷ spell_maybe spell_simple step (at w.CloseParen closing ∷ spell_stmt body rest)))

  -- what a part of a block spells
  pub spell_part : t.Part → List Terminal → List Terminal
  spell_part (t.declare declaration end) rest = spell_declaration declaration (at w.Semicolon end ∷ rest)
  spell_part (t.stmt inner) rest = spell_stmt inner rest

  -- the parts one after the other
  pub spell_parts : t.Parts → List Terminal → List Terminal
  spell_parts t.no_part rest = rest
  spell_parts (t.part first more) rest = spell_part first (spell_parts more rest)

-- an else after it would be its own
abbrev pub ends_open : t.Stmt → Bool
ends_open (t.if_only keyword opening test closing branch) = true
ends_open (t.if_else keyword opening test closing branch else_keyword other) = ends_open other
ends_open (t.while keyword opening test closing body) = ends_open body
ends_open (t.for keyword opening start start_end test test_end step closing body) = ends_open body
ends_open _ = false

abbrev mutual
  -- an else belongs to the nearest if
  pub IsStmt : t.Stmt → Type 0
  IsStmt (t.block opening parts closing) = AreParts parts
  IsStmt (t.empty end) = Unit {0}
  IsStmt (t.simple simple end) = IsSimple simple
  IsStmt (t.break keyword end) = Unit {0}
  IsStmt (t.continue keyword end) = Unit {0}
  IsStmt (t.return keyword value end) = IsMaybe IsRight value
  IsStmt (t.if_only keyword opening test closing branch) = IsExpr test × IsStmt branch
  IsStmt (t.if_else keyword opening test closing branch else_keyword other) = IsExpr test × IsStmt branch × (ends_open branch ≡ false) × IsStmt other
  IsStmt (t.while keyword opening test closing body) = IsExpr test × IsStmt body
  IsStmt (t.do_while keyword body while_keyword opening test closing end) = IsStmt body × IsExpr test
  IsStmt (t.for keyword opening start start_end test test_end step closing body) = IsForStart start × IsMaybe IsExpr test × IsMaybe IsSimple step × IsStmt body

  -- its declaration or statement is of the grammar
  pub IsPart : t.Part → Type 0
  IsPart (t.declare declaration end) = IsDeclaration declaration
  IsPart (t.stmt inner) = IsStmt inner

  -- each part is of the grammar
  pub AreParts : t.Parts → Type 0
  AreParts t.no_part = Unit {0}
  AreParts (t.part first more) = IsPart first × AreParts more

-- a name or nothing
abbrev pub spell_name : Option Span → List Terminal → List Terminal
spell_name = spell_maybe (spell_symbol w.Name)

-- parameter = "int" [NAME] | "int" [NAME] "[" [expression] "]" | "int" "*" [NAME] | "MPI_Comm" [NAME]
-- | "char" "*" "*" [NAME] | "char" "*" [NAME] "[" "]"
abbrev pub spell_parameter : t.Parameter → List Terminal → List Terminal
spell_parameter (t.int keyword name) rest = at w.Int keyword ∷ spell_name name rest
spell_parameter (t.array keyword name opening length closing) rest =
    at w.Int keyword ∷ spell_name name (at w.OpenBracket opening ∷ spell_maybe spell length (at w.CloseBracket closing ∷ rest))
spell_parameter (t.pointer keyword star name) rest = at w.Int keyword ∷ at w.Times star ∷ spell_name name rest
spell_parameter (t.communicator keyword name) rest = at w.Communicator keyword ∷ spell_name name rest
spell_parameter (t.text_pointers keyword star second name) rest = at w.Char keyword ∷ at w.Times star ∷ at w.Times second ∷ spell_name name rest
spell_parameter (t.text_array keyword star name opening closing) rest =
    at w.Char keyword ∷ at w.Times star ∷ spell_name name (at w.OpenBracket opening ∷ at w.CloseBracket closing ∷ rest)

-- the length of an array is of the grammar
abbrev pub IsParameter : t.Parameter → Type 0
IsParameter (t.array keyword name opening length closing) = IsMaybe IsExpr length
IsParameter _ = Unit {0}

-- a parameter's name
abbrev pub name_of_parameter : t.Parameter → Option Span
name_of_parameter (t.int keyword name) = name
name_of_parameter (t.array keyword name opening length closing) = name
name_of_parameter (t.pointer keyword star name) = name
name_of_parameter (t.communicator keyword name) = name
name_of_parameter (t.text_pointers keyword star second name) = name
name_of_parameter (t.text_array keyword star name opening closing) = name

-- parameters = [ "void" | parameter { "," parameter } ]
abbrev pub spell_parameters : t.Parameters → List Terminal → List Terminal
spell_parameters t.no_parameter rest = rest
spell_parameters (t.void keyword) rest = at w.Void keyword ∷ rest
spell_parameters (t.parameters list) rest = spell_comma_list spell_parameter list rest

-- each parameter is of the grammar
abbrev pub AreParameters : t.Parameters → Type 0
AreParameters (t.parameters list) = IsCommaList IsParameter list
AreParameters _ = Unit {0}

-- head = ("int" | "void") NAME "(" parameters ")"
abbrev pub spell_head : t.Head → List Terminal → List Terminal
spell_head head rest =
    at head.result head.at ∷ at w.Name head.name ∷ at w.OpenParen head.opening ∷ spell_parameters head.listed (at w.CloseParen head.closing ∷ rest)

-- it begins with `int` or `void`, and its parameters are of the grammar
abbrev pub IsHead : t.Head → Type 0
IsHead head = (is_result head.result ≡ true) × AreParameters head.listed

-- it is there
abbrev pub has : {A : Type 0} → Option A → Bool
has None = false
has (Some a) = true

-- each of these parameters has a name
abbrev pub are_named : List (Span × t.Parameter) → Bool
are_named [] = true
are_named (first ∷ more) = if has (name_of_parameter first.1) then are_named more else false

-- each parameter has a name
abbrev pub all_named : t.Parameters → Bool
all_named (t.parameters (t.comma_list first more)) = if has (name_of_parameter first) then are_named more else false
all_named _ = true

-- value = NUMBER | "-" NUMBER | "(" value ")"
abbrev pub spell_value : t.Value → List Terminal → List Terminal
spell_value value rest =
    spell_list (spell_symbol w.OpenParen) value.opens (spell_maybe (spell_symbol w.Minus) value.minus
    (at w.Number value.number ∷ spell_list (spell_symbol w.CloseParen) value.closes rest))

-- as many closing parentheses as opening ones
abbrev pub IsValue : t.Value → Type 0
IsValue value = length value.closes ≡ length value.opens

-- program = { DEFINE NAME value ENDLINE | head block | head ";" }
abbrev pub spell_external : t.ExternalDeclaration → List Terminal → List Terminal
spell_external (t.define keyword name value end) rest = at w.Define keyword ∷ at w.Name name ∷ spell_value value (at w.EndLine end ∷ rest)
spell_external (t.function head opening parts closing) rest = spell_head head (at w.OpenBrace opening ∷ spell_parts parts (at w.CloseBrace closing ∷ rest))
spell_external (t.prototype head end) rest = spell_head head (at w.Semicolon end ∷ rest)

-- names of parameters may be missing only where the head ends with `;`
abbrev pub IsExternal : t.ExternalDeclaration → Type 0
IsExternal (t.define keyword name value end) = IsValue value
IsExternal (t.function head opening parts closing) = IsHead head × (all_named head.listed ≡ true) × AreParts parts
IsExternal (t.prototype head end) = IsHead head

-- the external declarations one after the other
abbrev pub spell_tree : t.Tree → List Terminal → List Terminal
spell_tree = spell_list spell_external

-- each external declaration is of the grammar
abbrev pub AreExternals : t.Tree → Type 0
AreExternals = AreAll IsExternal
