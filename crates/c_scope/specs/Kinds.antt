-- The kinds of expressions. (ISO C, "Expressions".)
use Rattle.std.specs.Prelude.{Bool, true, false, List}
use Rattle.c_lex.specs.declared.fault.Why.TheVariants.{WrongType}
use Rattle.c_grammar.specs.declared.terminal.Span.{Span}
use Rattle.c_grammar.specs.declared.terminal.Symbol.{Symbol}
use Rattle.c_grammar.specs.declared.terminal.Symbol.TheVariants as w
use Rattle.c_grammar.specs.Tree as t
use Rattle.c_names.specs.declared.predefined.Predefined.TheVariants as p
use Rattle.c_names.specs.declared.kind.VariableKind.{VariableKind}
use Rattle.c_names.specs.declared.kind.VariableKind.TheVariants.{Int, Status, Request, Communicator}
use Rattle.c_scope.specs.Least.{fault_unless}
use Rattle.c_scope.specs.Scopes.{Env, meaning}
use Rattle.c_scope.specs.declared.fault.TypingFault.{TypingFault}
use Rattle.c_scope.specs.declared.meaning.ExprKind.{ExprKind}
use Rattle.c_scope.specs.declared.meaning.ExprKind.TheVariants.{Of, NullRequest, Element, Other, Nothing}
use Rattle.c_scope.specs.declared.meaning.Meaning.{Meaning}
use Rattle.c_scope.specs.declared.meaning.Meaning.TheVariants as m
use Rattle.c_scope.specs.declared.meaning.Entity.TheVariants as d

-- the kind of variables that a word declares; the word that is left is `int`
abbrev pub kind_of_symbol : Symbol → VariableKind
kind_of_symbol w.Status = Status
kind_of_symbol w.Request = Request
kind_of_symbol w.Communicator = Communicator
kind_of_symbol _ = Int

-- whether two kinds are the same
abbrev pub is_same_kind : VariableKind → VariableKind → Bool
is_same_kind Int Int = true
is_same_kind Status Status = true
is_same_kind Request Request = true
is_same_kind Communicator Communicator = true
is_same_kind _ _ = false

-- a name alone
abbrev pub whole_kind : Meaning → ExprKind
whole_kind (m.Known (p.Number value)) = Of Int
whole_kind (m.Known (p.Communicator number)) = Of Communicator
whole_kind (m.Known p.NullRequest) = NullRequest
whole_kind (m.Known _) = Other
whole_kind (m.Declared (d.Define value)) = Of Int
whole_kind (m.Declared (d.Variable kind)) = Of kind
whole_kind (m.Declared d.ArgumentCount) = Of Int
whole_kind (m.Declared _) = Other
whole_kind m.LeftOut = Nothing
whole_kind m.Unknown = Nothing

-- a name with an index; nothing where the name is no array
abbrev pub cell_kind : Meaning → ExprKind
cell_kind (m.Declared (d.Array kind length)) = Of kind
cell_kind (m.Declared d.ArrayParameter) = Of Int
cell_kind m.LeftOut = Element
cell_kind m.Unknown = Element
cell_kind _ = Nothing

-- where something can be assigned: a define is an int, but no place
abbrev pub target_kind : Meaning → ExprKind
target_kind (m.Declared (d.Variable kind)) = Of kind
target_kind (m.Declared d.ArgumentCount) = Of Int
target_kind m.LeftOut = Nothing
target_kind m.Unknown = Nothing
target_kind _ = Other

-- the kind of what a place holds
abbrev pub place_kind : Env → t.Place → ExprKind
place_kind env (t.whole name) = whole_kind (meaning env name)
place_kind env (t.cell name opening index closing) = cell_kind (meaning env name)

-- the kind of what an expression gives: all but places give an int
abbrev pub kind_of : Env → t.Expr → ExprKind
kind_of env (t.read place) = place_kind env place
kind_of env _ = Of Int

-- the first token
abbrev pub place_first_token : t.Place → Span
place_first_token (t.whole name) = name
place_first_token (t.cell name opening index closing) = name

-- the first token of an expression
abbrev pub first_token : t.Expr → Span
first_token (t.number at) = at
first_token (t.read place) = place_first_token place
first_token (t.field place dot name) = place_first_token place
first_token (t.paren opening inner closing) = opening
first_token (t.unary sign at operand) = at
first_token (t.chain level first links) = first_token first
first_token (t.choice test question taken colon spared) = first_token test

-- whether something of one kind may stand where one is wanted. What has no meaning fits where it would fit for one of its meanings:
-- an element is an int, a status, a request or a communicator
abbrev pub kind_fits : ExprKind → ExprKind → Bool
kind_fits Nothing given = true
kind_fits wanted Nothing = true
kind_fits (Of Int) (Of Int) = true
kind_fits (Of Status) (Of Status) = true
kind_fits (Of Communicator) (Of Communicator) = true
kind_fits (Of Int) Element = true
kind_fits (Of Status) Element = true
kind_fits (Of Communicator) Element = true
-- requests are not copied
kind_fits (Of Request) NullRequest = true
kind_fits wanted given = false

-- something else than what is wanted, at its first token
abbrev pub kind_faults : ExprKind → ExprKind → Span → List TypingFault
kind_faults wanted given at = fault_unless (kind_fits wanted given) at WrongType

-- the two sides of `==` and `!=` that may be handles: for what has no meaning, where one of its meanings makes them so
abbrev pub compares : ExprKind → ExprKind → Bool
compares (Of Communicator) (Of Communicator) = true
compares (Of Communicator) Element = true
compares Element (Of Communicator) = true
compares (Of Communicator) Nothing = true
compares Nothing (Of Communicator) = true
compares (Of Request) NullRequest = true
compares (Of Request) Nothing = true
compares Nothing (Of Request) = true
compares NullRequest (Of Request) = true
compares NullRequest NullRequest = true
compares NullRequest Element = true
compares Element NullRequest = true
compares NullRequest Nothing = true
compares Nothing NullRequest = true
compares _ _ = false
