-- Reading stops at or after where it began.
use Rattle.std.proofs.Common.{◌≡◌, ◌-◌, ◌<◌, ◌≤◌, ℕ, zero, suc, true, List, Option, Ok, length, ap, subst, sym, arith}
use Rattle.c_grammar.specs.declared.terminal.Span.{Span}
use Rattle.c_grammar.specs.declared.terminal.Terminal.{Terminal}
use Rattle.c_grammar.specs.declared.terminal.Symbol.{Symbol}
use Rattle.c_grammar.specs.Tree as t
use Rattle.c_grammar.specs.View.{Piece}
use Rattle.c_grammar.specs.Reading.{Answer, read_binary, expect, expr_at, read_link, read_unary}
use Rattle.c_grammar.specs.Symbols.{starts_part}
use Rattle.c_grammar.specs.StmtReading.{read_argument, read_after_comma, read_declarator, read_parameter, part_at, read_external}
use Rattle.c_grammar.proofs.Local.{ends_shorter}
use Rattle.c_grammar.proofs.Laws.{Laws, bind_ok, expect-ok, one_of-ok}
use Rattle.c_grammar.proofs.ExprLaws.{bin_laws, expr_laws, unary_laws}
use Rattle.c_grammar.proofs.Fork.{expr_takes}
use Rattle.c_grammar.proofs.Calls.{argument_laws, item_laws}
use Rattle.c_grammar.proofs.Lists.{shortens}
use Rattle.c_grammar.proofs.Starts.{part_starts}
use Rattle.c_grammar.proofs.StmtLaws.{stmts_laws}
use Rattle.c_grammar.proofs.ExternalLaws.{parameter_laws, external_of_laws, external_starts}

shorter : {A : Type 0} {read : List Terminal → Answer A} {spelled : A → List Terminal → List Terminal} {Good : A → Type 0} {deeps : A → List Terminal → Option (List Terminal)} {Over : A → List Terminal → Type 0}
    → Laws read spelled Good deeps Over → (ts : List Terminal) (y : A × List Terminal) → read ts ≡ Ok y → length y.1 ≤ length ts
shorter l ts y h = ends_shorter (rw h at (l.local.ends ts))

pub expect_shorter : (x : Symbol) (ts : List Terminal) (y : Span × List Terminal) → expect x ts ≡ Ok y → length y.1 < length ts
expect_shorter x ts y h = omega (arith, ap length (expect-ok x ts y h))

pub after_comma_shorter : {A : Type 0} (one : List Terminal → Answer A) → ((ts : List Terminal) (y : A × List Terminal) → one ts ≡ Ok y → length y.1 ≤ length ts)
    → (ts : List Terminal) (y : (Span × A) × List Terminal) → read_after_comma one ts ≡ Ok y → length y.1 < length ts
after_comma_shorter {A} one short ts y h =
    let a = bind_ok _ _ y h in let b = bind_ok _ _ y a.2 in
    let first = expect_shorter _ ts a.0 a.1 in let second = short a.0.1 b.0 b.1 in
    let same : b.0.1 ≡ y.1 = let k = b.2 in cc in
    rw (sym same) (omega arith)

pub expr_shorter : (left : ℕ) (ts : List Terminal) (y : t.Expr × List Terminal) → 0 < left → expr_at left true ts ≡ Ok y → length y.1 ≤ length ts
expr_shorter left ts y above h = shorter (expr_laws left).full ts y h

pub link_shorter : (left k : ℕ) (ts : List Terminal) (y : Piece × List Terminal) → k < 11
    → read_link (read_binary (read_unary (expr_at left)) (k - 1)) k ts ≡ Ok y → length y.1 < length ts
link_shorter left k ts y low h =
    let l = expr_laws left in
    let bin = bin_laws left (read_unary (expr_at left)) (unary_laws left (expr_at left) l.full l.operand) (k - 1) (omega arith) in
    let a = bind_ok _ _ y h in let b = bind_ok _ _ y a.2 in
    let first = ap length (one_of-ok _ ts a.0 a.1).0 in let second = shorter bin a.0.1 b.0 b.1 in
    let same : b.0.1 ≡ y.1 = let k = b.2 in cc in
    rw (sym same) (omega arith)

pub argument_shorter : (left : ℕ) (ts : List Terminal) (y : t.Argument × List Terminal) → 0 < left
    → read_argument (expr_at left true) (expr_at (left - 1) true) ts ≡ Ok y → length y.1 ≤ length ts
argument_shorter zero ts y above h = absurd (omega arith)
argument_shorter (suc n) ts y above h =
    let e : suc n - 1 ≡ n = omega arith in
    shorter (argument_laws n (expr_at (suc n) true) (expr_at n true) (expr_laws (suc n)).full (expr_laws n).full (expr_takes n)) ts y
    (subst (λ k. read_argument (expr_at (suc n) true) (expr_at k true) ts ≡ Ok y) e h)

pub item_shorter : (left : ℕ) (ts : List Terminal) (y : t.InitDeclarator × List Terminal) → 0 < left
    → read_declarator (expr_at left true) (expr_at (left - 1) true) ts ≡ Ok y → length y.1 ≤ length ts
item_shorter zero ts y above h = absurd (omega arith)
item_shorter (suc n) ts y above h =
    let e : suc n - 1 ≡ n = omega arith in
    shorter (item_laws n (expr_at (suc n) true) (expr_at n true) (expr_laws (suc n)).full (expr_laws n).full (expr_takes n)) ts y
    (subst (λ k. read_declarator (expr_at (suc n) true) (expr_at k true) ts ≡ Ok y) e h)

pub parameter_shorter : (left : ℕ) (ts : List Terminal) (y : t.Parameter × List Terminal) → 0 < left → read_parameter (expr_at (left - 1) true) ts ≡ Ok y → length y.1 ≤ length ts
parameter_shorter left ts y above h = shorter (parameter_laws (left - 1) (expr_at (left - 1) true) (expr_laws (left - 1)).full) ts y h

pub part_shorter : (left : ℕ) (ts : List Terminal) (y : t.Part × List Terminal) → part_at left ts ≡ Ok y → length y.1 < length ts
part_shorter left ts y h = shortens (stmts_laws left).part starts_part part_starts ts y h

pub external_shorter : (ts : List Terminal) (y : t.ExternalDeclaration × List Terminal) → read_external ts ≡ Ok y → length y.1 < length ts
external_shorter ts y h = shortens external_of_laws (λ x. true) external_starts ts y h
