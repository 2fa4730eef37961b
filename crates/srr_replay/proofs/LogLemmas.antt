-- The entries and the ranks of a log.
use Rattle.std.proofs.Common.{◌≡◌, ◌∙◌, ◌<◌, ◌+◌, ℕ, List, [], ◌∷◌, ◌==◌, Bool, true, false, ◌&&◌, inl, inr, ap, map, refl, subst, nat_le, nat_lt}
use Rattle.std.specs.List.{list_all}
use Rattle.std.proofs.lemmas.Bool.{eqb-true, ltb-true}
use Rattle.mpi_call.specs.Collectives.{is_member}
use Rattle.mpi_call.specs.Lists.{rises}
use Rattle.run_model.specs.Lists.{are_below}
use Rattle.run_model.specs.Shape.{rise_within}
use Rattle.run_model.proofs.Views.{test_cases}
use Rattle.srr_entry.specs.declared.entry.Marked.{Marked}

pub both : (a b : Bool) → (a && b) ≡ true → (a ≡ true) × (b ≡ true)
both true b h = (refl, h)
both false b h = absurd (cc)

-- a member of the group is below the number of ranks
pub below_at : (n : ℕ) (group : List ℕ) (rank : ℕ) → are_below n group ≡ true → is_member group rank ≡ true → rank < n
below_at n [] rank below member = absurd (cc)
below_at n (m ∷ group) rank below member =
    elim (test_cases (m == rank)) [
      | inl h ↦ let P : ℕ → Type 0 = λ r. r < n in subst P (eqb-true m rank h) (ltb-true m n (both (nat_lt m n) (are_below n group) below).0)
      | inr h ↦ below_at n group rank (both (nat_lt m n) (are_below n group) below).1 (rw h at member)
    ]

-- indices that rise and are below a length
and_swap : (a r b l : Bool) → ((a && r) && (b && l)) ≡ (a && (b && (r && l)))
and_swap false r b l = refl
and_swap true true b l = refl
and_swap true false true l = refl
and_swap true false false l = refl

pub rise_below : (low len : ℕ) (marks : List Marked)
    → (rises low (map (λ (marked : Marked). marked.index) marks) && list_all (λ (marked : Marked). nat_lt marked.index len) marks)
    ≡ rise_within low len (map (λ (marked : Marked). marked.index) marks)
rise_below low len [] = refl
rise_below low len (mark ∷ marks) =
    and_swap (nat_le low mark.index) (rises (mark.index + 1) (map (λ (marked : Marked). marked.index) marks)) (nat_lt mark.index len) (list_all (λ (marked : Marked). nat_lt marked.index len) marks)
    ∙ ap (λ b. nat_le low mark.index && (nat_lt mark.index len && b)) (rise_below (mark.index + 1) len marks)
