-- Reading statements, functions and programs by descent. `expr` reads an expression at the depth of what is read, `index` one that is a
-- depth below it.
use Rattle.std.specs.Prelude.{◌&&◌, ◌-◌, Bool, true, false, ℕ, zero, suc, List, [], ◌∷◌, length, Option, Some, Ok, if◌then◌else◌}
use Rattle.c_lex.specs.declared.fault.Why.TheVariants.{Unexpected}
use Rattle.c_grammar.specs.declared.limits.TheConstants.{MOST_DEPTHS}
use Rattle.c_grammar.specs.declared.terminal.Symbol.{Symbol}
use Rattle.c_grammar.specs.declared.terminal.Symbol.TheVariants as w
use Rattle.c_grammar.specs.declared.terminal.Span.{Span}
use Rattle.c_grammar.specs.declared.terminal.Terminal.{Terminal}
use Rattle.c_grammar.specs.Tree as t
use Rattle.c_grammar.specs.Symbols.{is, isnt, is_assign, is_step, is_kind, is_result, starts_part, starts_stmt}
use Rattle.c_grammar.specs.StmtView.{parts_from}
use Rattle.c_grammar.specs.StmtGrammar.{all_named}
use Rattle.c_grammar.specs.Reading.{Answer, refuse, ◌>>=◌, first_of, heads, expect, one_of, too_deep, maybe, many, read_times, read_place, expr_at}

-- a comma and what follows it
abbrev pub read_after_comma : {A : Type 0} → (List Terminal → Answer A) → List Terminal → Answer (Span × A)
read_after_comma one ts = do
  comma ← expect w.Comma ts
  item ← one comma.1
  Ok ((comma.0, item.0), item.1)

-- one thing or more, with commas between them
abbrev pub read_comma_list : {A : Type 0} → (List Terminal → Answer A) → List Terminal → Answer (t.CommaList A)
read_comma_list one ts = do
  first ← one ts
  more ← many (is w.Comma) (read_after_comma one) first.1
  Ok (t.comma_list first.0 more.0, more.1)

-- an argument, by its first symbol
abbrev pub argument_by : (List Terminal → Answer t.Expr) → (List Terminal → Answer t.Expr) → List Terminal → Option Symbol → Answer t.Argument
argument_by expr index ts (Some w.Text) = do
  span ← expect w.Text ts
  Ok (t.text span.0, span.1)
argument_by expr index ts (Some w.And) = do
  mark ← expect w.And ts
  place ← read_place index mark.1
  Ok (t.address mark.0 place.0, place.1)
argument_by expr index ts _ = do
  value ← expr ts
  Ok (t.value value.0, value.1)

-- an argument
unfoldable pub read_argument : (List Terminal → Answer t.Expr) → (List Terminal → Answer t.Expr) → List Terminal → Answer t.Argument
read_argument expr index ts = argument_by expr index ts (first_of ts)

-- a call
unfoldable pub read_call : (List Terminal → Answer t.Expr) → (List Terminal → Answer t.Expr) → List Terminal → Answer t.WrittenCall
read_call expr index ts = do
  name ← expect w.Name ts
  opening ← expect w.OpenParen name.1
  given ← maybe (isnt w.CloseParen) (read_comma_list (read_argument expr index)) opening.1
  closing ← expect w.CloseParen given.1
  Ok (record { name = name.0; opening = opening.0; arguments = given.0; closing = closing.0 }, closing.1)

-- a name and an opening parenthesis after it
abbrev pub calls : List Terminal → Bool
calls [] = false
calls (t ∷ ts) = is w.Name t.symbol && heads (is w.OpenParen) ts

-- a right side
unfoldable pub read_right : (List Terminal → Answer t.Expr) → (List Terminal → Answer t.Expr) → List Terminal → Answer t.Right
read_right expr index ts =
    if calls ts
    then (read_call expr index ts >>= λ call. Ok (t.called call.0, call.1))
    else (expr ts >>= λ value. Ok (t.valued value.0, value.1))

-- an assignment after its place
abbrev pub read_assign : (List Terminal → Answer t.Expr) → (List Terminal → Answer t.Expr) → t.Place → List Terminal → Answer t.Simple
read_assign expr index place ts = do
  operator ← one_of is_assign ts
  right ← read_right expr index operator.1
  Ok (t.assign place operator.0.symbol operator.0.span right.0, right.1)

-- after a place
abbrev pub simple_tail : (List Terminal → Answer t.Expr) → (List Terminal → Answer t.Expr) → t.Place → List Terminal → Answer t.Simple
simple_tail expr index place ts =
    if heads is_step ts
    then (one_of is_step ts >>= λ operator. Ok (t.after place operator.0.symbol operator.0.span, operator.1))
    else read_assign expr index place ts

-- `++` or `--` and a place
abbrev pub read_before : (List Terminal → Answer t.Expr) → List Terminal → Answer t.Simple
read_before index ts = do
  operator ← one_of is_step ts
  place ← read_place index operator.1
  Ok (t.before operator.0.symbol operator.0.span place.0, place.1)

-- a simple statement that is no call
unfoldable pub read_change : (List Terminal → Answer t.Expr) → (List Terminal → Answer t.Expr) → List Terminal → Answer t.Simple
read_change expr index ts =
    if heads is_step ts
    then read_before index ts
    else (read_place index ts >>= λ place. simple_tail expr index place.0 place.1)

-- a simple statement
unfoldable pub read_simple : (List Terminal → Answer t.Expr) → (List Terminal → Answer t.Expr) → List Terminal → Answer t.Simple
read_simple expr index ts =
    if calls ts
    then (read_call expr index ts >>= λ call. Ok (t.invoke call.0, call.1))
    else read_change expr index ts

-- an initializer in braces after its `=`
abbrev pub read_braced : (List Terminal → Answer t.Expr) → Span → List Terminal → Answer t.Initializer
read_braced expr mark ts = do
  opening ← expect w.OpenBrace ts
  values ← read_comma_list expr opening.1
  closing ← expect w.CloseBrace values.1
  Ok (t.braced mark opening.0 values.0 closing.0, closing.1)

-- an initializer after its `=`
abbrev pub initial_tail : (List Terminal → Answer t.Expr) → (List Terminal → Answer t.Expr) → Span → List Terminal → Answer t.Initializer
initial_tail expr index mark ts =
    if heads (is w.OpenBrace) ts
    then read_braced expr mark ts
    else (read_right expr index ts >>= λ right. Ok (t.begun mark right.0, right.1))

-- an initializer
unfoldable pub read_initial : (List Terminal → Answer t.Expr) → (List Terminal → Answer t.Expr) → List Terminal → Answer t.Initializer
read_initial expr index ts = do
  mark ← expect w.Assign ts
  initial_tail expr index mark.0 mark.1

-- a declarator and its initializer, if any
unfoldable pub read_declarator : (List Terminal → Answer t.Expr) → (List Terminal → Answer t.Expr) → List Terminal → Answer t.InitDeclarator
read_declarator expr index ts = do
  place ← read_place index ts
  initial ← maybe (is w.Assign) (read_initial expr index) place.1
  Ok (record { place = place.0; initial = initial.0 }, initial.1)

-- a declaration
unfoldable pub read_declaration : (List Terminal → Answer t.Expr) → (List Terminal → Answer t.Expr) → List Terminal → Answer t.Declaration
read_declaration expr index ts = do
  kind ← one_of is_kind ts
  items ← read_comma_list (read_declarator expr index) kind.1
  Ok (record { kind = kind.0.symbol; at = kind.0.span; items = items.0 }, items.1)

-- a declaration or a simple statement
abbrev pub given_start : (List Terminal → Answer t.Expr) → (List Terminal → Answer t.Expr) → List Terminal → Answer t.ForStart
given_start expr index ts =
    if heads is_kind ts
    then (read_declaration expr index ts >>= λ one. Ok (t.declared_start one.0, one.1))
    else (read_simple expr index ts >>= λ simple. Ok (t.simple_start simple.0, simple.1))

-- how a for begins
unfoldable pub read_for_start : (List Terminal → Answer t.Expr) → (List Terminal → Answer t.Expr) → List Terminal → Answer t.ForStart
read_for_start expr index ts = if heads (is w.Semicolon) ts then Ok (t.no_start, ts) else given_start expr index ts

-- part reads what is in the block
abbrev pub read_block : (List Terminal → Answer t.Part) → List Terminal → Answer t.Stmt
read_block part ts = do
  opening ← expect w.OpenBrace ts
  parts ← many (isnt w.CloseBrace) part opening.1
  closing ← expect w.CloseBrace parts.1
  Ok (t.block opening.0 (parts_from parts.0) closing.0, closing.1)

-- `;` alone
abbrev pub read_empty : List Terminal → Answer t.Stmt
read_empty ts = do
  end ← expect w.Semicolon ts
  Ok (t.empty end.0, end.1)

-- `break` and `;`
abbrev pub read_break : List Terminal → Answer t.Stmt
read_break ts = do
  keyword ← expect w.Break ts
  end ← expect w.Semicolon keyword.1
  Ok (t.break keyword.0 end.0, end.1)

-- `continue` and `;`
abbrev pub read_continue : List Terminal → Answer t.Stmt
read_continue ts = do
  keyword ← expect w.Continue ts
  end ← expect w.Semicolon keyword.1
  Ok (t.continue keyword.0 end.0, end.1)

-- `return`, a right side or nothing, and `;`
abbrev pub read_return : (List Terminal → Answer t.Expr) → (List Terminal → Answer t.Expr) → List Terminal → Answer t.Stmt
read_return expr index ts = do
  keyword ← expect w.Return ts
  value ← maybe (isnt w.Semicolon) (read_right expr index) keyword.1
  end ← expect w.Semicolon value.1
  Ok (t.return keyword.0 value.0 end.0, end.1)

-- what stands before the statement of an if: its word, and the test in parentheses
pub record IfHead : Type 0 where
  pub keyword : Span
  pub opening : Span
  pub test : t.Expr
  pub closing : Span

-- the head with these parts
abbrev pub if_head : Span → Span → t.Expr → Span → IfHead
if_head keyword opening test closing = record { keyword = keyword; opening = opening; test = test; closing = closing }

-- one reads a statement one deeper
abbrev pub read_other_branch : (List Terminal → Answer t.Stmt) → IfHead → t.Stmt → List Terminal → Answer t.Stmt
read_other_branch one head branch ts = do
  mark ← expect w.Else ts
  other ← one mark.1
  Ok (t.if_else head.keyword head.opening head.test head.closing branch mark.0 other.0, other.1)

-- after the statement of an if
abbrev pub read_else : (List Terminal → Answer t.Stmt) → IfHead → t.Stmt → List Terminal → Answer t.Stmt
read_else one head branch ts =
    if heads (is w.Else) ts then read_other_branch one head branch ts else Ok (t.if_only head.keyword head.opening head.test head.closing branch, ts)

-- an if, with its else or without
abbrev pub read_if : (List Terminal → Answer t.Expr) → (List Terminal → Answer t.Stmt) → List Terminal → Answer t.Stmt
read_if expr one ts = do
  keyword ← expect w.If ts
  opening ← expect w.OpenParen keyword.1
  test ← expr opening.1
  closing ← expect w.CloseParen test.1
  branch ← one closing.1
  read_else one (if_head keyword.0 opening.0 test.0 closing.0) branch.0 branch.1

-- a while
abbrev pub read_while_loop : (List Terminal → Answer t.Expr) → (List Terminal → Answer t.Stmt) → List Terminal → Answer t.Stmt
read_while_loop expr one ts = do
  keyword ← expect w.While ts
  opening ← expect w.OpenParen keyword.1
  test ← expr opening.1
  closing ← expect w.CloseParen test.1
  body ← one closing.1
  Ok (t.while keyword.0 opening.0 test.0 closing.0 body.0, body.1)

-- a do
abbrev pub read_do : (List Terminal → Answer t.Expr) → (List Terminal → Answer t.Stmt) → List Terminal → Answer t.Stmt
read_do expr one ts = do
  keyword ← expect w.Do ts
  body ← one keyword.1
  mark ← expect w.While body.1
  opening ← expect w.OpenParen mark.1
  test ← expr opening.1
  closing ← expect w.CloseParen test.1
  end ← expect w.Semicolon closing.1
  Ok (t.do_while keyword.0 body.0 mark.0 opening.0 test.0 closing.0 end.0, end.1)

-- a for
abbrev pub read_for : (List Terminal → Answer t.Expr) → (List Terminal → Answer t.Expr) → (List Terminal → Answer t.Stmt) → List Terminal → Answer t.Stmt
read_for expr index one ts = do
  keyword ← expect w.For ts
  opening ← expect w.OpenParen keyword.1
  start ← read_for_start expr index opening.1
  start_end ← expect w.Semicolon start.1
  test ← maybe (isnt w.Semicolon) expr start_end.1
  test_end ← expect w.Semicolon test.1
  step ← maybe (isnt w.CloseParen) (read_simple expr index) test_end.1
  closing ← expect w.CloseParen step.1
  body ← one closing.1
  Ok (t.for keyword.0 opening.0 start.0 start_end.0 test.0 test_end.0 step.0 closing.0 body.0, body.1)

-- a simple statement and `;`
abbrev pub read_plain : (List Terminal → Answer t.Expr) → (List Terminal → Answer t.Expr) → List Terminal → Answer t.Stmt
read_plain expr index ts = do
  simple ← read_simple expr index ts
  end ← expect w.Semicolon simple.1
  Ok (t.simple simple.0 end.0, end.1)

-- a statement, by its first symbol
abbrev pub stmt_by : (List Terminal → Answer t.Expr) → (List Terminal → Answer t.Expr) → (List Terminal → Answer t.Stmt) → (List Terminal → Answer t.Part) → List Terminal → Option Symbol → Answer t.Stmt
stmt_by expr index one part ts (Some w.OpenBrace) = read_block part ts
stmt_by expr index one part ts (Some w.Semicolon) = read_empty ts
stmt_by expr index one part ts (Some w.Break) = read_break ts
stmt_by expr index one part ts (Some w.Continue) = read_continue ts
stmt_by expr index one part ts (Some w.Return) = read_return expr index ts
stmt_by expr index one part ts (Some w.If) = read_if expr one ts
stmt_by expr index one part ts (Some w.While) = read_while_loop expr one ts
stmt_by expr index one part ts (Some w.Do) = read_do expr one ts
stmt_by expr index one part ts (Some w.For) = read_for expr index one ts
stmt_by expr index one part ts _ = read_plain expr index ts

-- a statement
unfoldable pub read_stmt : (List Terminal → Answer t.Expr) → (List Terminal → Answer t.Expr) → (List Terminal → Answer t.Stmt) → (List Terminal → Answer t.Part) → List Terminal → Answer t.Stmt
read_stmt expr index one part ts = stmt_by expr index one part ts (first_of ts)

-- stmt reads a statement at this depth
unfoldable pub read_part : (List Terminal → Answer t.Expr) → (List Terminal → Answer t.Expr) → (List Terminal → Answer t.Stmt) → List Terminal → Answer t.Part
read_part expr index stmt ts =
    if heads is_kind ts
    then (read_declaration expr index ts >>= λ one. expect w.Semicolon one.1 >>= λ end. Ok (t.declare one.0 end.0, end.1))
    else (stmt ts >>= λ inner. Ok (t.stmt inner.0, inner.1))

-- stmt reads a statement with n depths left
unfoldable pub part_with : ℕ → (List Terminal → Answer t.Stmt) → List Terminal → Answer t.Part
part_with zero stmt = too_deep starts_part
part_with (suc n) stmt = read_part (expr_at (suc n) true) (expr_at n true) stmt

-- with n depths left
unfoldable pub stmt_at : ℕ → List Terminal → Answer t.Stmt
stmt_at zero = too_deep starts_stmt
stmt_at (suc n) = read_stmt (expr_at (suc n) true) (expr_at n true) (stmt_at n) (part_with n (stmt_at n))

-- a part of a block with n depths left
abbrev pub part_at : ℕ → List Terminal → Answer t.Part
part_at n = part_with n (stmt_at n)

-- a name or nothing
abbrev pub name_maybe : List Terminal → Answer (Option Span)
name_maybe = maybe (is w.Name) (expect w.Name)

-- index reads an array's length
abbrev pub read_array : (List Terminal → Answer t.Expr) → Span → Option Span → List Terminal → Answer t.Parameter
read_array index keyword name ts = do
  opening ← expect w.OpenBracket ts
  size ← maybe (isnt w.CloseBracket) index opening.1
  closing ← expect w.CloseBracket size.1
  Ok (t.array keyword name opening.0 size.0 closing.0, closing.1)

-- what follows `int` and a name or nothing: brackets or nothing
abbrev pub array_tail : (List Terminal → Answer t.Expr) → Span → Option Span → List Terminal → Answer t.Parameter
array_tail index keyword name ts = if heads (is w.OpenBracket) ts then read_array index keyword name ts else Ok (t.int keyword name, ts)

-- what follows `int`
abbrev pub int_tail : (List Terminal → Answer t.Expr) → Span → List Terminal → Answer t.Parameter
int_tail index keyword ts =
    if heads (is w.Times) ts
    then (expect w.Times ts >>= λ star. name_maybe star.1 >>= λ name. Ok (t.pointer keyword star.0 name.0, name.1))
    else (name_maybe ts >>= λ name. array_tail index keyword name.0 name.1)

-- what follows `char *` where no second star does
abbrev pub read_text_array : Span → Span → List Terminal → Answer t.Parameter
read_text_array keyword star ts = do
  name ← name_maybe ts
  opening ← expect w.OpenBracket name.1
  closing ← expect w.CloseBracket opening.1
  Ok (t.text_array keyword star name.0 opening.0 closing.0, closing.1)

-- what follows `char *`
abbrev pub char_tail : Span → Span → List Terminal → Answer t.Parameter
char_tail keyword star ts =
    if heads (is w.Times) ts
    then (expect w.Times ts >>= λ second. name_maybe second.1 >>= λ name. Ok (t.text_pointers keyword star second.0 name.0, name.1))
    else read_text_array keyword star ts

-- a parameter, by its first symbol
abbrev pub parameter_by : (List Terminal → Answer t.Expr) → List Terminal → Option Symbol → Answer t.Parameter
parameter_by index ts (Some w.Int) = do
  keyword ← expect w.Int ts
  int_tail index keyword.0 keyword.1
parameter_by index ts (Some w.Communicator) = do
  keyword ← expect w.Communicator ts
  name ← name_maybe keyword.1
  Ok (t.communicator keyword.0 name.0, name.1)
parameter_by index ts _ = do
  keyword ← expect w.Char ts
  star ← expect w.Times keyword.1
  char_tail keyword.0 star.0 star.1

-- a parameter
unfoldable pub read_parameter : (List Terminal → Answer t.Expr) → List Terminal → Answer t.Parameter
read_parameter index ts = parameter_by index ts (first_of ts)

-- parameters, by the first symbol
abbrev pub parameters_by : (List Terminal → Answer t.Expr) → List Terminal → Option Symbol → Answer t.Parameters
parameters_by index ts (Some w.CloseParen) = Ok (t.no_parameter, ts)
parameters_by index ts (Some w.Void) = do
  keyword ← expect w.Void ts
  Ok (t.void keyword.0, keyword.1)
parameters_by index ts _ = do
  list ← read_comma_list (read_parameter index) ts
  Ok (t.parameters list.0, list.1)

-- the head of a function
unfoldable pub read_head : (List Terminal → Answer t.Expr) → List Terminal → Answer t.Head
read_head index ts = do
  result ← one_of is_result ts
  name ← expect w.Name result.1
  opening ← expect w.OpenParen name.1
  listed ← parameters_by index opening.1 (first_of opening.1)
  closing ← expect w.CloseParen listed.1
  Ok (record { result = result.0.symbol; at = result.0.span; name = name.0; opening = opening.0; listed = listed.0; closing = closing.0 }, closing.1)

-- the value of a define
unfoldable pub read_value : List Terminal → Answer t.Value
read_value ts = do
  opens ← many (is w.OpenParen) (expect w.OpenParen) ts
  minus ← maybe (is w.Minus) (expect w.Minus) opens.1
  number ← expect w.Number minus.1
  closes ← read_times (expect w.CloseParen) (length opens.0) number.1
  Ok (record { opens = opens.0; minus = minus.0; number = number.0; closes = closes.0 }, closes.1)

-- a define
abbrev pub read_define : List Terminal → Answer t.ExternalDeclaration
read_define ts = do
  keyword ← expect w.Define ts
  name ← expect w.Name keyword.1
  value ← read_value name.1
  end ← expect w.EndLine value.1
  Ok (t.define keyword.0 name.0 value.0 end.0, end.1)

-- a function's block, where its head names each parameter
abbrev pub read_body : (List Terminal → Answer t.Part) → t.Head → Bool → List Terminal → Answer t.ExternalDeclaration
read_body part head true ts = do
  opening ← expect w.OpenBrace ts
  parts ← many (isnt w.CloseBrace) part opening.1
  closing ← expect w.CloseBrace parts.1
  Ok (t.function head opening.0 (parts_from parts.0) closing.0, closing.1)
read_body part head false ts = refuse Unexpected ts

-- what follows a head: a block or `;`
abbrev pub head_tail : (List Terminal → Answer t.Part) → t.Head → List Terminal → Answer t.ExternalDeclaration
head_tail part head ts =
    if heads (is w.OpenBrace) ts
    then read_body part head (all_named head.listed) ts
    else (expect w.Semicolon ts >>= λ end. Ok (t.prototype head end.0, end.1))

-- an external declaration: a define, or a head and what follows it
unfoldable pub external_with : (List Terminal → Answer t.Expr) → (List Terminal → Answer t.Part) → List Terminal → Answer t.ExternalDeclaration
external_with index part ts =
    if heads (is w.Define) ts
    then read_define ts
    else (read_head index ts >>= λ head. head_tail part head.0 head.1)

-- a function's head and its outermost parts stand at the first of all depths
abbrev pub read_external : List Terminal → Answer t.ExternalDeclaration
read_external = external_with (expr_at (MOST_DEPTHS - 1) true) (part_at MOST_DEPTHS)

-- a whole text
unfoldable pub read_whole_text : List Terminal → Answer t.Tree
read_whole_text = many (λ x. true) read_external
