-- Chains of operators, link by link.
use Rattle.std.proofs.Common.{◌≡◌, ◌+◌, ◌<◌, ◌≤◌, ◌∙◌, ℕ, zero, suc, ℤ, List, [], ◌∷◌, length, drop, get_or, refl, sym, ap, arith}
use Rattle.std.specs.Prelude.{Ok, Err}
use Rattle.std.proofs.Math.Seq.{drop-cons}
use Rattle.mpi_call.specs.declared.call.Fault.{Fault}
use Rattle.c_program.specs.declared.expr.TypedLink.{TypedLink}
use Rattle.c_program.specs.State.{State}
use Rattle.c_program.specs.Values.{value_with_links}
use Rattle.c_program.specs.View.{pure_expr, pure_links}
use Rattle.c_run_cells.specs.Parts.{linked}

list-at : (xs : List TypedLink) (i : ℕ) (x : TypedLink) → i < length xs → x ≡ get_or xs i x → drop i xs ≡ x ∷ drop (i + 1) xs
list-at xs i x h e = let n : suc i ≡ i + 1 = omega arith in drop-cons xs i x h ∙ ap (λ y. y ∷ drop (suc i) xs) (sym e) ∙ ap (λ n. x ∷ drop n xs) n

drop-end : (xs : List TypedLink) (i : ℕ) → length xs ≤ i → drop i xs ≡ []
drop-end [] zero h = refl
drop-end [] (suc i) h = refl
drop-end (x ∷ xs) zero h = absurd (omega arith)
drop-end (x ∷ xs) (suc i) h = drop-end xs i (omega arith)

pub chain-next : (links : List TypedLink) (i : ℕ) (link : TypedLink) (v w : ℤ) (s : State) → i < length links → link ≡ get_or links i link
    → Ok w ≡ linked link.operator (pure_expr link.operand) v s → value_with_links (pure_links (drop i links)) v s ≡ value_with_links (pure_links (drop (i + 1) links)) w s
chain-next links i link v w s lt e is = rw (list-at links i link lt e, ← is) refl

pub chain-fails : (links : List TypedLink) (i : ℕ) (link : TypedLink) (v : ℤ) (fault : Fault) (s : State) → i < length links → link ≡ get_or links i link
    → Err fault ≡ linked link.operator (pure_expr link.operand) v s → value_with_links (pure_links (drop i links)) v s ≡ Err fault
chain-fails links i link v fault s lt e is = rw (list-at links i link lt e, ← is) refl

pub chain-ends : (links : List TypedLink) (i : ℕ) (v : ℤ) (s : State) → length links ≤ i → value_with_links (pure_links (drop i links)) v s ≡ Ok v
chain-ends links i v s h = rw (drop-end links i h) refl
