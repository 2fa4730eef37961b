-- At a depth above 0.
use Rattle.std.proofs.Common.{◌≡◌, ◌==◌, ◌-◌, ◌<◌, Bool, true, false, ℕ, zero, suc, List, Ok, ap, arith}
use Rattle.c_grammar.specs.declared.terminal.Terminal.{Terminal}
use Rattle.c_grammar.specs.Tree as t
use Rattle.c_grammar.specs.Symbols.{level_of}
use Rattle.c_grammar.specs.Reading.{◌>>=◌, Answer, read_binary, chain_or_operand, read_choice, expr_at, read_link, many, read_unary}

abbrev pub at_depth : (List Terminal → Answer t.Expr) → (List Terminal → Answer t.Expr) → Bool → List Terminal → Answer t.Expr
at_depth full operand true = full
at_depth full operand false = operand

pub expr_more : (n : ℕ) (full : Bool) (ts : List Terminal) → 0 < n
    → expr_at n full ts ≡ at_depth (read_choice (expr_at (n - 1))) (read_unary (expr_at (n - 1))) full ts
unfolding expr_at
expr_more zero full ts h = absurd (omega arith)
expr_more (suc n) true ts h = ap (λ k. read_choice (expr_at k) ts) (let e : n ≡ suc n - 1 = omega arith in e)
expr_more (suc n) false ts h = ap (λ k. read_unary (expr_at k) ts) (let e : n ≡ suc n - 1 = omega arith in e)

pub bin_more : (operand : List Terminal → Answer t.Expr) (k : ℕ) (ts : List Terminal) → 0 < k
    → read_binary operand k ts
    ≡ (read_binary operand (k - 1) ts >>= λ e. many (λ x. level_of x == k) (read_link (read_binary operand (k - 1)) k) e.1 >>= λ ps. Ok (chain_or_operand k e.0 ps.0, ps.1))
unfolding read_binary
bin_more operand zero ts h = absurd (omega arith)
bin_more operand (suc k) ts h =
    ap (λ j. read_binary operand j ts >>= λ e. many (λ x. level_of x == suc k) (read_link (read_binary operand j) (suc k)) e.1 >>= λ ps. Ok (chain_or_operand (suc k) e.0 ps.0, ps.1))
    (let e : k ≡ suc k - 1 = omega arith in e)
