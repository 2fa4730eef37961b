-- The greater of two numbers for each rank, made place by place.
use Rattle.std.proofs.Common.{◌≡◌, ◌≤◌, ◌<◌, ◌+◌, ℕ, List, inl, inr, refl, ap, sym, ◌∙◌, arith, get_or, get_or-set_other, get_or-set_same, length, length-set, max, set, subst}
use Rattle.std.proofs.lemmas.Bool.{cases_eq, cases_lt}
use Rattle.std.proofs.lemmas.List.{get_or_past}
use Rattle.rank_counts.specs.Greater.{AreGreater}

-- the greater ones at the places below one
pub record AreGreaterBelow (i : ℕ) (old other mine : List ℕ) : Type 0 where
  pub as_many : length mine ≡ length old
  pub done : (r : ℕ) → r < i → get_or mine r 0 ≡ max (get_or old r 0) (get_or other r 0)
  pub rest : (r : ℕ) → i ≤ r → get_or mine r 0 ≡ get_or old r 0

pub greater_none : (old other : List ℕ) → AreGreaterBelow 0 old other old
greater_none old other = record { as_many = refl; done = λ r h. absurd (omega (arith, h)); rest = λ r h. refl }

pub greater_more : (i : ℕ) (old other mine : List ℕ) (x : ℕ) → i < length mine → x ≡ max (get_or mine i 0) (get_or other i 0) → AreGreaterBelow i old other mine → AreGreaterBelow (i + 1) old other (set mine i x)
greater_more i old other mine x low is below =
    record {
      as_many = length-set mine i x ∙ below.as_many;
      done = λ r h. elim (cases_eq r i) [
        | inl e ↦ (
            let P : ℕ → Type 0 = λ k. get_or (set mine i x) k 0 ≡ max (get_or old k 0) (get_or other k 0) in
            subst P (sym e) (get_or-set_same mine i x 0 low ∙ is ∙ ap (λ m. max m (get_or other i 0)) (below.rest i (omega arith))))
        | inr ne ↦ get_or-set_other mine i r x 0 ne ∙ below.done r (omega (arith, h, ne))
      ];
      rest = λ r h. get_or-set_other mine i r x 0 (λ e. omega (arith, e, h)) ∙ below.rest r (omega (arith, h));
    }

pub greater_all : (i : ℕ) (old other mine : List ℕ) → i ≡ length other → length other ≡ length old → AreGreaterBelow i old other mine → AreGreater old other mine
greater_all i old other mine all wide below =
    record {
      as_many = below.as_many;
      each = λ r. elim (cases_lt r i) [
        | inl low ↦ below.done r low
        | inr high ↦ (
            let many = below.as_many in
            let a = get_or_past mine r 0 (omega (arith, all, wide, many, high)) in
            let b = get_or_past old r 0 (omega (arith, all, wide, high)) in
            let c = get_or_past other r 0 (omega (arith, all, high)) in
            omega (arith, a, b, c))
      ];
    }
