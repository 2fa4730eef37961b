-- What small texts are read as.
use Rattle.std.proofs.Common.{List, ◌≡◌, refl, true, ℕ, [], ◌∷◌, Some, Ok}
use Rattle.c_lex.specs.declared.fault.Why.TheVariants.{Unexpected, TooDeep}
use Rattle.c_grammar.specs.declared.terminal.Symbol.TheVariants as w
use Rattle.c_grammar.specs.declared.terminal.Span.{Span}
use Rattle.c_grammar.specs.declared.terminal.Terminal.{Terminal}
use Rattle.c_grammar.specs.Tree as t
use Rattle.c_grammar.specs.Grammar.{at}
use Rattle.c_grammar.specs.Programs.{IsTree, IsUnexpected}
use Rattle.c_grammar.proofs.Programs.{read_fault}
use Rattle.c_grammar.specs.Reading.{expect, one_of, too_deep, refuse, read_place, read_unary, read_binary, read_choice, expr_at}
use Rattle.c_grammar.specs.StmtReading.{read_argument, read_call, read_right, read_change, read_simple, read_stmt, read_part, part_with, stmt_at, read_parameter, read_head, read_value, external_with, read_whole_text}

span : ℕ → Span
span n = record { start = n; len = 1 }

-- `1 + 2 * a[3] - 4`: the product binds tighter, and the sums are one chain
sums : expr_at 64 true (at w.Number (span 0) ∷ at w.Plus (span 1) ∷ at w.Number (span 2) ∷ at w.Times (span 3) ∷ at w.Name (span 4) ∷ at w.OpenBracket (span 5)
    ∷ at w.Number (span 6) ∷ at w.CloseBracket (span 7) ∷ at w.Minus (span 8) ∷ at w.Number (span 9) ∷ at w.Semicolon (span 10) ∷ [])
    ≡ Ok (
      t.chain 2 (t.number (span 0))
          (t.link w.Plus (span 1) (t.chain 1 (t.number (span 2)) (t.link w.Times (span 3) (t.read (t.cell (span 4) (span 5) (t.number (span 6)) (span 7))) t.no_link))
          (t.link w.Minus (span 8) (t.number (span 9)) t.no_link)),
      at w.Semicolon (span 10) ∷ [],
    )
unfolding expect one_of too_deep read_place read_unary read_binary read_choice expr_at
sums = refl

-- `if (x) if (y) ; else ;`: an else belongs to the nearest if
nearest : stmt_at 64 (at w.If (span 0) ∷ at w.OpenParen (span 1) ∷ at w.Name (span 2) ∷ at w.CloseParen (span 3) ∷ at w.If (span 4) ∷ at w.OpenParen (span 5)
    ∷ at w.Name (span 6) ∷ at w.CloseParen (span 7) ∷ at w.Semicolon (span 8) ∷ at w.Else (span 9) ∷ at w.Semicolon (span 10) ∷ [])
    ≡ Ok (
      t.if_only (span 0) (span 1) (t.read (t.whole (span 2))) (span 3)
          (t.if_else (span 4) (span 5) (t.read (t.whole (span 6))) (span 7) (t.empty (span 8)) (span 9) (t.empty (span 10))),
      [],
    )
unfolding expect one_of too_deep read_place read_unary read_binary read_choice expr_at read_stmt stmt_at
nearest = refl

-- `void f(int a) { f(a); }`
function_signs : List Terminal
function_signs =
    at w.Void (span 0) ∷ at w.Name (span 1) ∷ at w.OpenParen (span 2) ∷ at w.Int (span 3) ∷ at w.Name (span 4) ∷ at w.CloseParen (span 5) ∷ at w.OpenBrace (span 6)
    ∷ at w.Name (span 7) ∷ at w.OpenParen (span 8) ∷ at w.Name (span 9) ∷ at w.CloseParen (span 10) ∷ at w.Semicolon (span 11) ∷ at w.CloseBrace (span 12) ∷ []

function_tree : t.Tree
function_tree =
    t.function
    (record {
      result = w.Void;
      at = span 0;
      name = span 1;
      opening = span 2;
      listed = t.parameters (t.comma_list (t.int (span 3) (Some (span 4))) []);
      closing = span 5;
    })
    (span 6)
    (t.part
    (t.stmt
    (t.simple
    (t.invoke
    (record {
      name = span 7;
      opening = span 8;
      arguments = Some (t.comma_list (t.value (t.read (t.whole (span 9)))) []);
      closing = span 10;
    }))
    (span 11)))
    t.no_part)
    (span 12)
    ∷ []

-- it is read so,
function_read : read_whole_text function_signs ≡ Ok (function_tree, [])
unfolding function_signs function_tree expect one_of too_deep read_place read_unary read_binary read_choice expr_at read_argument read_call read_right
    read_change read_simple read_stmt read_part part_with stmt_at read_parameter read_head read_value external_with read_whole_text
function_read = refl

-- and this is its tree by the grammar alone
function_is : IsTree function_signs function_tree
unfolding function_signs function_tree
function_is = ((((refl, (tt, tt)), refl, ((tt, tt), tt)), tt), refl, refl)

-- `int x;` at the outermost place: the `;` is unexpected
variable : read_whole_text (at w.Int (span 0) ∷ at w.Name (span 1) ∷ at w.Semicolon (span 2) ∷ []) ≡ refuse Unexpected (at w.Semicolon (span 2) ∷ [])
unfolding expect one_of read_head external_with read_whole_text
variable = refl

variable_fault : IsUnexpected (at w.Int (span 0) ∷ at w.Name (span 1) ∷ at w.Semicolon (span 2) ∷ []) (at w.Semicolon (span 2) ∷ [])
variable_fault = read_fault _ Unexpected _ variable

-- `int f(int) { }`: a parameter without a name, so the `{` is unexpected
nameless : read_whole_text (at w.Int (span 0) ∷ at w.Name (span 1) ∷ at w.OpenParen (span 2) ∷ at w.Int (span 3) ∷ at w.CloseParen (span 4) ∷ at w.OpenBrace (span 5) ∷ at w.CloseBrace (span 6) ∷ [])
    ≡ refuse Unexpected (at w.OpenBrace (span 5) ∷ at w.CloseBrace (span 6) ∷ [])
unfolding expect one_of read_parameter read_head external_with read_whole_text
nameless = refl

-- `#define N ((-1))` and the line's end
defined : read_whole_text (at w.Define (span 0) ∷ at w.Name (span 1) ∷ at w.OpenParen (span 2) ∷ at w.OpenParen (span 3) ∷ at w.Minus (span 4) ∷ at w.Number (span 5)
    ∷ at w.CloseParen (span 6) ∷ at w.CloseParen (span 7) ∷ at w.EndLine (span 8) ∷ [])
    ≡ Ok (
      t.define (span 0) (span 1) (record { opens = span 2 ∷ span 3 ∷ []; minus = Some (span 4); number = span 5; closes = span 6 ∷ span 7 ∷ [] }) (span 8) ∷ [],
      [],
    )
unfolding expect one_of read_value external_with read_whole_text
defined = refl

-- `((1))` where two depths are left: the number is too deep
deep : expr_at 2 true (at w.OpenParen (span 0) ∷ at w.OpenParen (span 1) ∷ at w.Number (span 2) ∷ at w.CloseParen (span 3) ∷ at w.CloseParen (span 4) ∷ [])
    ≡ refuse TooDeep (at w.Number (span 2) ∷ at w.CloseParen (span 3) ∷ at w.CloseParen (span 4) ∷ [])
unfolding expect one_of too_deep read_unary read_binary read_choice expr_at
deep = refl

-- `x = f(1) + 2;`: a call is the whole right side, so the `+` is unexpected
summed : stmt_at 64 (at w.Name (span 0) ∷ at w.Assign (span 1) ∷ at w.Name (span 2) ∷ at w.OpenParen (span 3) ∷ at w.Number (span 4) ∷ at w.CloseParen (span 5) ∷ at w.Plus (span 6)
    ∷ at w.Number (span 7) ∷ at w.Semicolon (span 8) ∷ [])
    ≡ refuse Unexpected (at w.Plus (span 6) ∷ at w.Number (span 7) ∷ at w.Semicolon (span 8) ∷ [])
unfolding expect one_of too_deep read_place read_unary read_binary read_choice expr_at read_argument read_call read_right read_change read_simple read_stmt stmt_at
summed = refl
