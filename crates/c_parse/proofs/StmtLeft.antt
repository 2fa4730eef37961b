-- At a depth above 0.
use Rattle.std.proofs.Common.{◌≡◌, ◌-◌, ◌<◌, true, ℕ, zero, suc, List, ap, arith}
use Rattle.c_grammar.specs.declared.terminal.Terminal.{Terminal}
use Rattle.c_grammar.specs.Tree as t
use Rattle.c_grammar.specs.StmtReading.{part_at, read_part, part_with, stmt_at, read_stmt}
use Rattle.c_grammar.specs.Reading.{Answer, expr_at}

pub stmt_more : (n : ℕ) (ts : List Terminal) → 0 < n
    → stmt_at n ts ≡ read_stmt (expr_at n true) (expr_at (n - 1) true) (stmt_at (n - 1)) (part_at (n - 1)) ts
unfolding stmt_at
stmt_more zero ts h = absurd (omega arith)
stmt_more (suc n) ts h =
    ap (λ k. read_stmt (expr_at (suc n) true) (expr_at k true) (stmt_at k) (part_at k) ts) (let e : n ≡ suc n - 1 = omega arith in e)

pub part_more : (n : ℕ) (stmt : List Terminal → Answer t.Stmt) (ts : List Terminal) → 0 < n
    → part_with n stmt ts ≡ read_part (expr_at n true) (expr_at (n - 1) true) stmt ts
unfolding part_with
part_more zero stmt ts h = absurd (omega arith)
part_more (suc n) stmt ts h = ap (λ k. read_part (expr_at (suc n) true) (expr_at k true) stmt ts) (let e : n ≡ suc n - 1 = omega arith in e)
