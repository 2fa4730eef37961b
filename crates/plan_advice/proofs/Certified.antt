-- What the tests of an advice find.
use Rattle.std.proofs.Common.{◌≡◌, ◌≤◌, ◌<◌, ◌+◌, ◌-◌, ◌*◌, ◌^◌, ◌∷◌, ◌⊎◌, Bool, List, [], ap, arith, false, inl, inr, length, refl, subst, sym, true, ℕ}
use Rattle.std.specs.Prelude.{MatchBool, slice_index}
use Rattle.std.proofs.lemmas.Bool.{cases_lt}
use Rattle.run_model.proofs.Views.{test_cases}
use Rattle.plan_advice.specs.Cuttings.{AreEnds, IsBlock, IsCertificate, IsReached, cost_from}
use Rattle.plan_advice.specs.inside.Ways.{IsBound, cost_by}
use Rattle.plan_advice.proofs.Least.{ends_within}

pub last_or : (k count : ℕ) → k < count + 1 → (k < count) ⊎ (k ≡ count)
last_or k count under = elim (cases_lt k count) [ inl less ↦ inl less | inr most ↦ inr (omega (arith, under, most)) ]

-- 1. one bound

-- of the blocks up to `end` that begin before `next`: none leads to less, and whether one leads to the bound
pub record IsTested (block : ℕ → ℕ → ℕ) (most : ℕ) (bounds : List ℕ) (next end : ℕ) (reached : Bool) : Type 0 where
  pub below : (other : ℕ) → other < next → IsBlock most other end → slice_index bounds end ≤ cost_by block bounds other end
  pub found : MatchBool reached ((other : ℕ) × IsReached block most bounds other end) ((other : ℕ) → other < next → IsReached block most bounds other end → ⊥)

pub tested_first : (block : ℕ → ℕ → ℕ) (most : ℕ) (bounds : List ℕ) (next end : ℕ) → next ≡ end - most → IsTested block most bounds next end false
tested_first block most bounds next end is =
    record {
      below = λ other under one. (let few = one.few in absurd (omega (arith, under, few, is)));
      found = λ other under reached. (let few = reached.is_block.few in absurd (omega (arith, under, few, is)));
    }

pub tested_more : (block : ℕ → ℕ → ℕ) (most : ℕ) (bounds : List ℕ) (next end : ℕ) (was now : Bool) → end - most ≤ next → next < end
    → IsTested block most bounds next end was → slice_index bounds end ≤ cost_by block bounds next end
    → (now ≡ true → (was ≡ true) ⊎ (cost_by block bounds next end ≡ slice_index bounds end))
    → (now ≡ false → (was ≡ false) × (cost_by block bounds next end ≡ slice_index bounds end → ⊥))
    → IsTested block most bounds (next + 1) end now
tested_more block most bounds next end was now low high is here gain loss =
    let Some : Type 0 = (other : ℕ) × IsReached block most bounds other end in
    let Old : Bool → Type 0 = λ b. MatchBool b Some ((other : ℕ) → other < next → IsReached block most bounds other end → ⊥) in
    let New : Bool → Type 0 = λ b. MatchBool b Some ((other : ℕ) → other < next + 1 → IsReached block most bounds other end → ⊥) in
    record {
      below = λ other under one. elim (last_or other next under) [
        | inl early ↦ is.below other early one
        | inr last ↦ (let D : ℕ → Type 0 = λ k. slice_index bounds end ≤ cost_by block bounds k end in subst D (sym last) here)
      ];
      found = elim (test_cases now) [
        | inl t ↦ subst New (sym t) (elim (gain t) [
          | inl before ↦ subst Old before is.found
          | inr same ↦ (next, record { is_block = record { some = high; few = omega (arith, low) }; same = same })
        ])
        | inr f ↦ subst New (sym f) (λ other under reached. elim (last_or other next under) [
          | inl early ↦ (let none : (other : ℕ) → other < next → IsReached block most bounds other end → ⊥ = subst Old (loss f).0 is.found in none other early reached)
          | inr last ↦ (let R : ℕ → Type 0 = λ k. IsReached block most bounds k end in let now = subst R last reached in (loss f).1 now.same)
        ])
      ];
    }

pub tested_all : (block : ℕ → ℕ → ℕ) (most : ℕ) (bounds : List ℕ) (next end : ℕ) (reached : Bool) → end ≤ next → IsTested block most bounds next end reached
    → MatchBool reached (IsBound block most bounds end) (IsBound block most bounds end → ⊥)
tested_all block most bounds next end true past is =
    record { below = λ begin one. (let some = one.some in is.below begin (omega (arith, some, past)) one); reached = is.found }
tested_all block most bounds next end false past is =
    λ bound. (let some = bound.reached.1.is_block.some in is.found bound.reached.0 (omega (arith, some, past)) bound.reached.1)

pub tested_less : (block : ℕ → ℕ → ℕ) (most : ℕ) (bounds : List ℕ) (begin end : ℕ) → end - most ≤ begin → begin < end
    → cost_by block bounds begin end < slice_index bounds end → IsBound block most bounds end → ⊥
tested_less block most bounds begin end low high less bound =
    let so = bound.below begin (record { some = high; few = omega (arith, low) }) in
    omega (arith, so, less)

-- 2. all bounds

pub certificate_from : (block : ℕ → ℕ → ℕ) (n most : ℕ) (bounds : List ℕ) → length bounds ≡ n + 1 → slice_index bounds 0 ≡ 0
    → ((end : ℕ) → 0 < end → end ≤ n → IsBound block most bounds end) → IsCertificate block n most bounds
certificate_from block n most bounds many first each =
    record {
      many = many;
      first = first;
      below = λ begin end within one. (let some = one.some in (each end (omega (arith, some)) within).below begin one);
      reached = λ end some within. (each end some within).reached;
    }

pub certificate_bound : (block : ℕ → ℕ → ℕ) (n most : ℕ) (bounds : List ℕ) (end : ℕ) → IsCertificate block n most bounds → 0 < end → end ≤ n → IsBound block most bounds end
certificate_bound block n most bounds end is some within =
    record { below = λ begin one. is.below begin end within one; reached = is.reached end some within }

pub bounds_more : (block : ℕ → ℕ → ℕ) (most : ℕ) (bounds : List ℕ) (count : ℕ) → ((end : ℕ) → 0 < end → end ≤ count → IsBound block most bounds end)
    → IsBound block most bounds (count + 1) → (end : ℕ) → 0 < end → end ≤ count + 1 → IsBound block most bounds end
bounds_more block most bounds count each next end some within =
    elim (last_or end (count + 1) (omega (arith, within))) [
      | inl early ↦ each end some (omega (arith, early))
      | inr last ↦ (let B : ℕ → Type 0 = λ k. IsBound block most bounds k in subst B (sym last) next)
    ]

-- 3. the ends

pub record IsCut (block : ℕ → ℕ → ℕ) (n most : ℕ) (all : List ℕ) (begin total : ℕ) (rest : List ℕ) : Type 0 where
  pub onward : AreEnds n most begin rest → AreEnds n most 0 all
  pub back : AreEnds n most 0 all → AreEnds n most begin rest
  pub sum : total + cost_from block begin rest ≡ cost_from block 0 all
  pub few : total ≤ begin * 2 ^ 32
  pub within : begin ≤ n

pub cut_first : (block : ℕ → ℕ → ℕ) (n most : ℕ) (all : List ℕ) → IsCut block n most all 0 0 all
cut_first block n most all = record { onward = λ are. are; back = λ are. are; sum = omega arith; few = omega arith; within = omega arith }

pub cut_more : (block : ℕ → ℕ → ℕ) (n most : ℕ) (all : List ℕ) (begin total total' cost end : ℕ) (rest after : List ℕ) → rest ≡ end ∷ after
    → IsBlock most begin end → end ≤ n → cost ≡ block begin end → cost ≤ (end - begin) * 2 ^ 32 → total' ≡ total + cost
    → IsCut block n most all begin total rest → IsCut block n most all end total' after
cut_more block n most all begin total total' cost end rest after split one within is small grown cut =
    let A : List ℕ → Type 0 = λ l. AreEnds n most begin l in
    let sum = cut.sum in
    let few = cut.few in
    let some = one.some in
    let front : cost_from block begin rest ≡ block begin end + cost_from block end after = ap (λ l. cost_from block begin l) split in
    record {
      onward = λ are. cut.onward (subst A (sym split) (one, are));
      back = λ are. (subst A split (cut.back are)).1;
      sum = omega (arith, sum, front, is, grown);
      few = omega (arith, few, small, some, grown);
      within = within;
    }

pub cut_none : (block : ℕ → ℕ → ℕ) (n most : ℕ) (all : List ℕ) (begin total end : ℕ) (rest after : List ℕ) → rest ≡ end ∷ after
    → IsCut block n most all begin total rest → (end ≤ n → IsBlock most begin end → ⊥) → AreEnds n most 0 all → ⊥
cut_none block n most all begin total end rest after split cut not are =
    let A : List ℕ → Type 0 = λ l. AreEnds n most begin l in
    let here : AreEnds n most begin (end ∷ after) = subst A split (cut.back are) in
    not (ends_within n most end after here.1) here.0

empty_is : {X : Type 0} (xs : List X) → length xs < 1 → xs ≡ []
empty_is [] less = refl
empty_is (x ∷ xs) less = absurd (omega (arith, less))

pub cut_all : (block : ℕ → ℕ → ℕ) (n most : ℕ) (all : List ℕ) (begin total : ℕ) (rest : List ℕ) → length rest < 1 → begin ≡ n
    → IsCut block n most all begin total rest → AreEnds n most 0 all × (total ≡ cost_from block 0 all)
cut_all block n most all begin total rest less at cut =
    let A : List ℕ → Type 0 = λ l. AreEnds n most begin l in
    let none = empty_is rest less in
    let empty : cost_from block begin rest ≡ 0 = ap (λ l. cost_from block begin l) none in
    let sum = cut.sum in
    (cut.onward (subst A (sym none) at), omega (arith, sum, empty))

pub cut_short : (block : ℕ → ℕ → ℕ) (n most : ℕ) (all : List ℕ) (begin total : ℕ) (rest : List ℕ) → length rest < 1 → (begin ≡ n → ⊥)
    → IsCut block n most all begin total rest → AreEnds n most 0 all → ⊥
cut_short block n most all begin total rest less not cut are =
    let A : List ℕ → Type 0 = λ l. AreEnds n most begin l in
    let here : begin ≡ n = subst A (empty_is rest less) (cut.back are) in
    not here
