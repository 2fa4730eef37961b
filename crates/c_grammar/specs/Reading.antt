-- Reading expressions by descent: a tree and the terminals after it, or the first fault. Each production is a function of the readers that it
-- stands on. The number of depths left is the recursion's own.
use Rattle.std.specs.Prelude.{◌==◌, ◌-◌, Bool, true, false, ℕ, zero, suc, List, [], ◌∷◌, length, Option, Some, None, Result, Ok, Err, if◌then◌else◌}
use Rattle.c_lex.specs.declared.fault.Why.{Why}
use Rattle.c_lex.specs.declared.fault.Why.TheVariants.{Unexpected, TooDeep}
use Rattle.c_grammar.specs.declared.limits.TheConstants.{CONDITIONAL_LEVEL}
use Rattle.c_grammar.specs.declared.terminal.Symbol.{Symbol}
use Rattle.c_grammar.specs.declared.terminal.Symbol.TheVariants as w
use Rattle.c_grammar.specs.declared.terminal.Span.{Span}
use Rattle.c_grammar.specs.declared.terminal.Terminal.{Terminal}
use Rattle.c_grammar.specs.Symbols.{level_of, is_sign, is, starts_expr}
use Rattle.c_grammar.specs.Tree.{Expr, number, read, field, paren, unary, chain, choice, Place, whole, cell}
use Rattle.c_grammar.specs.View.{Piece, links_from}

-- a refusal, and the terminals from it on
pub record Fault : Type 0 where
  pub why : Why
  pub rest : List Terminal

-- what reading gives: a tree and the terminals after it, or a refusal
abbrev pub Answer : Type 0 → Type 0
Answer A = Result (A × List Terminal) Fault

-- the refusal for this reason from these terminals on
abbrev pub refuse : {A : Type 0} → Why → List Terminal → Answer A
refuse why rest = Err (record { why = why; rest = rest })

infixl 10 ◌>>=◌
-- reading goes on after what was read
abbrev pub ◌>>=◌ : {A B : Type 0} → Answer A → (A × List Terminal → Answer B) → Answer B
(Ok x) >>= f = f x
(Err e) >>= f = Err e

-- the first symbol, where there is one
abbrev pub first_of : List Terminal → Option Symbol
first_of [] = None
first_of (t ∷ ts) = Some t.symbol

-- the first symbol is one of these
abbrev pub heads : (Symbol → Bool) → List Terminal → Bool
heads test [] = false
heads test (t ∷ ts) = test t.symbol

-- the terminal of this symbol
unfoldable pub expect : Symbol → List Terminal → Answer Span
expect x [] = refuse Unexpected []
expect x (t ∷ ts) = if is x t.symbol then Ok (t.span, ts) else refuse Unexpected (t ∷ ts)

-- a terminal of one of these symbols
unfoldable pub one_of : (Symbol → Bool) → List Terminal → Answer Terminal
one_of test [] = refuse Unexpected []
one_of test (t ∷ ts) = if test t.symbol then Ok (t, ts) else refuse Unexpected (t ∷ ts)

-- what is too deep
unfoldable pub too_deep : {A : Type 0} → (Symbol → Bool) → List Terminal → Answer A
too_deep starts [] = refuse Unexpected []
too_deep starts (t ∷ ts) = if starts t.symbol then refuse TooDeep (t ∷ ts) else refuse Unexpected (t ∷ ts)

-- something that is there where its first symbol says so
abbrev pub maybe : {A : Type 0} → (Symbol → Bool) → (List Terminal → Answer A) → List Terminal → Answer (Option A)
maybe goes one ts = if heads goes ts then (one ts >>= λ a. Ok (Some a.0, a.1)) else Ok (None, ts)

-- things as long as the first symbol says that one more is there; n bounds them
abbrev pub read_while : {A : Type 0} → (Symbol → Bool) → (List Terminal → Answer A) → ℕ → List Terminal → Answer (List A)
read_while goes one zero ts = Ok ([], ts)
read_while goes one (suc n) ts =
    if heads goes ts
    then (one ts >>= λ a. read_while goes one n a.1 >>= λ more. Ok (a.0 ∷ more.0, more.1))
    else Ok ([], ts)

-- all of them: each takes a terminal at least, so their bound is the number of terminals
abbrev pub many : {A : Type 0} → (Symbol → Bool) → (List Terminal → Answer A) → List Terminal → Answer (List A)
many goes one ts = read_while goes one (length ts) ts

-- this many things
abbrev pub read_times : {A : Type 0} → (List Terminal → Answer A) → ℕ → List Terminal → Answer (List A)
read_times one zero ts = Ok ([], ts)
read_times one (suc n) ts = do
  a ← one ts
  more ← read_times one n a.1
  Ok (a.0 ∷ more.0, more.1)

-- a name and an index in brackets, which `index` reads
abbrev pub read_cell : (List Terminal → Answer Expr) → Span → List Terminal → Answer Place
read_cell index name ts = do
  opening ← expect w.OpenBracket ts
  inner ← index opening.1
  closing ← expect w.CloseBracket inner.1
  Ok (cell name opening.0 inner.0 closing.0, closing.1)

-- what follows the name of a place: an index or nothing
abbrev pub place_tail : (List Terminal → Answer Expr) → Span → List Terminal → Answer Place
place_tail index name ts = if heads (is w.OpenBracket) ts then read_cell index name ts else Ok (whole name, ts)

-- a place
unfoldable pub read_place : (List Terminal → Answer Expr) → List Terminal → Answer Place
read_place index ts = do
  name ← expect w.Name ts
  place_tail index name.0 name.1

-- a dot and the name of a field after a place
abbrev pub read_field : Place → List Terminal → Answer Expr
read_field place ts = do
  dot ← expect w.Dot ts
  name ← expect w.Name dot.1
  Ok (field place dot.0 name.0, name.1)

-- what follows a place that is read: a field or nothing
abbrev pub field_tail : Place → List Terminal → Answer Expr
field_tail place ts = if heads (is w.Dot) ts then read_field place ts else Ok (read place, ts)

-- a place that is read, or a field of it
abbrev pub read_named : (List Terminal → Answer Expr) → List Terminal → Answer Expr
read_named index ts = do
  place ← read_place index ts
  field_tail place.0 place.1

-- a number
abbrev pub read_number : List Terminal → Answer Expr
read_number ts = do
  span ← expect w.Number ts
  Ok (number span.0, span.1)

-- under true reads an expression one deeper, under false an operand with its signs
abbrev pub read_paren : (Bool → List Terminal → Answer Expr) → List Terminal → Answer Expr
read_paren under ts = do
  opening ← expect w.OpenParen ts
  inner ← under true opening.1
  closing ← expect w.CloseParen inner.1
  Ok (paren opening.0 inner.0 closing.0, closing.1)

-- a sign and its operand
abbrev pub read_signed : (Bool → List Terminal → Answer Expr) → List Terminal → Answer Expr
read_signed under ts = do
  sign ← one_of is_sign ts
  operand ← under false sign.1
  Ok (unary sign.0.symbol sign.0.span operand.0, operand.1)

-- an operand with its signs, by its first symbol
abbrev pub unary_by : (Bool → List Terminal → Answer Expr) → List Terminal → Option Symbol → Answer Expr
unary_by under ts (Some w.Number) = read_number ts
unary_by under ts (Some w.Name) = read_named (under true) ts
unary_by under ts (Some w.OpenParen) = read_paren under ts
unary_by under ts _ = read_signed under ts

-- an operand with its signs
unfoldable pub read_unary : (Bool → List Terminal → Answer Expr) → List Terminal → Answer Expr
read_unary under ts = unary_by under ts (first_of ts)

-- an operator of level k and its operand
abbrev pub read_link : (List Terminal → Answer Expr) → ℕ → List Terminal → Answer Piece
read_link below k ts = do
  operator ← one_of (λ x. level_of x == k) ts
  operand ← below operator.1
  Ok (record { operator = operator.0.symbol; at = operator.0.span; operand = operand.0 }, operand.1)

-- the operands of one level: the first alone, or a chain
abbrev pub chain_or_operand : ℕ → Expr → List Piece → Expr
chain_or_operand k first [] = first
chain_or_operand k first (p ∷ ps) = chain k first (links_from (p ∷ ps))

-- an expression of operators up to level k
unfoldable pub read_binary : (List Terminal → Answer Expr) → ℕ → List Terminal → Answer Expr
read_binary operand zero ts = operand ts
read_binary operand (suc k) ts = do
  first ← read_binary operand k ts
  links ← many (λ x. level_of x == suc k) (read_link (read_binary operand k) (suc k)) first.1
  Ok (chain_or_operand (suc k) first.0 links.0, links.1)

-- the two branches after a test
abbrev pub read_branches : (Bool → List Terminal → Answer Expr) → Expr → List Terminal → Answer Expr
read_branches under test ts = do
  question ← expect w.Question ts
  branch ← under true question.1
  colon ← expect w.Colon branch.1
  other ← under true colon.1
  Ok (choice test question.0 branch.0 colon.0 other.0, other.1)

-- what follows a test: two branches or nothing
abbrev pub choice_tail : (Bool → List Terminal → Answer Expr) → Expr → List Terminal → Answer Expr
choice_tail under test ts = if heads (is w.Question) ts then read_branches under test ts else Ok (test, ts)

-- an expression: operators of all levels, then `?` and two branches or nothing
unfoldable pub read_choice : (Bool → List Terminal → Answer Expr) → List Terminal → Answer Expr
read_choice under ts = do
  test ← read_binary (read_unary under) (CONDITIONAL_LEVEL - 1) ts
  choice_tail under test.0 test.1

-- an expression (true) or an operand with its signs (false), with n depths left
unfoldable pub expr_at : ℕ → Bool → List Terminal → Answer Expr
expr_at zero full = too_deep starts_expr
expr_at (suc n) false = read_unary (expr_at n)
expr_at (suc n) true = read_choice (expr_at n)
