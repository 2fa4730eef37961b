-- There is one advice on a run.
use Rattle.std.proofs.Common.{◌≡◌, ◌≤◌, ◌++◌, ◌∷◌, ◌∙◌, ◌⊎◌, List, [], ap, arith, inl, inr, refl, slice_index, subst, suc, sym, zero, ℕ}
use Rattle.std.proofs.lemmas.List.{ext_get_or}
use Rattle.plan_advice.specs.declared.advice.Advice.{Advice}
use Rattle.plan_advice.specs.Advices.{RunsHaveOneAdvice}
use Rattle.plan_advice.specs.Costs.{block_cost}
use Rattle.plan_advice.specs.Cuttings.{AreEnds, AreLeast, IsCertificate, IsLeastReached}
use Rattle.std.proofs.lemmas.Bool.{cases_lt}
use Rattle.plan_advice.proofs.Least.{ends_within}

-- 1. the bounds, by induction over the number of ranks

-- no bound of one certificate is greater than that of another
no_greater : (block : ℕ → ℕ → ℕ) (n most : ℕ) (bounds others : List ℕ) → IsCertificate block n most bounds → IsCertificate block n most others
    → (up_to k : ℕ) → k ≤ up_to → k ≤ n → slice_index bounds k ≤ slice_index others k
no_greater block n most bounds others is too up_to zero low within = (let first = is.first in omega (arith, first))
no_greater block n most bounds others is too zero (suc k) low within = absurd (omega (arith, low))
no_greater block n most bounds others is too (suc up_to) (suc k) low within =
    let way = too.reached (suc k) (omega arith) within in
    let some = way.1.is_block.some in
    let same = way.1.same in
    let here = is.below way.0 (suc k) within way.1.is_block in
    let before = no_greater block n most bounds others is too up_to way.0 (omega (arith, some, low)) (omega (arith, some, within)) in
    omega (arith, here, before, same)

one_bounds : (block : ℕ → ℕ → ℕ) (n most : ℕ) (bounds others : List ℕ) → IsCertificate block n most bounds → IsCertificate block n most others → bounds ≡ others
one_bounds block n most bounds others is too =
    let many = is.many in
    let as_many = too.many in
    ext_get_or 0 bounds others (omega (arith, many, as_many)) (λ k below.
    let less = no_greater block n most bounds others is too k k (omega arith) (omega (arith, below, many)) in
    let more = no_greater block n most others bounds too is k k (omega arith) (omega (arith, below, many)) in
    omega (arith, less, more))

-- 2. the ends, from the last block to the first

-- the least beginning is one
one_begin : (block : ℕ → ℕ → ℕ) (most : ℕ) (bounds : List ℕ) (begin other end : ℕ) → IsLeastReached block most bounds begin end
    → IsLeastReached block most bounds other end → begin ≡ other
one_begin block most bounds begin other end is too = elim (cases_lt begin other) [
  | inl less ↦ absurd (too.least begin less is.reached)
  | inr most ↦ elim (cases_lt other begin) [
    | inl less ↦ absurd (is.least other less too.reached)
    | inr not ↦ omega (arith, most, not)
  ]
]

-- the last block, and the blocks before it
record HasLast (block : ℕ → ℕ → ℕ) (n most : ℕ) (bounds : List ℕ) (begin : ℕ) (ends : List ℕ) : Type 0 where
  last : ℕ
  front : List ℕ
  is : ends ≡ front ++ n ∷ []
  ends_of : AreEnds last most begin front
  at : IsLeastReached block most bounds last n
  least : AreLeast block most bounds begin front

last_of : (block : ℕ → ℕ → ℕ) (n most : ℕ) (bounds : List ℕ) (begin : ℕ) (ends : List ℕ) → AreEnds n most begin ends → AreLeast block most bounds begin ends
    → ((ends ≡ []) × (begin ≡ n)) ⊎ HasLast block n most bounds begin ends
last_of block n most bounds begin [] are least = inl (refl, are)
last_of block n most bounds begin (end ∷ ends) are least = elim (last_of block n most bounds end ends are.1 least.1) [
  | inl none ↦
      let E : ℕ → Type 0 = λ k. IsLeastReached block most bounds begin k in
      inr (record { last = begin; front = []; is = rw (none.0, none.1) refl; ends_of = refl; at = subst E none.1 least.0; least = tt })
  | inr some ↦
      inr (record {
        last = some.last;
        front = end ∷ some.front;
        is = ap (λ (l : List ℕ). end ∷ l) some.is;
        ends_of = (are.0, some.ends_of);
        at = some.at;
        least = (least.0, some.least);
      })
]

one_ends : (block : ℕ → ℕ → ℕ) (most : ℕ) (bounds : List ℕ) (up_to n : ℕ) (ends others : List ℕ) → n ≤ up_to → AreEnds n most 0 ends → AreLeast block most bounds 0 ends
    → AreEnds n most 0 others → AreLeast block most bounds 0 others → ends ≡ others
one_ends block most bounds up_to zero [] [] low are least are' least' = refl
one_ends block most bounds up_to zero (end ∷ ends) others low are least are' least' =
    (let some = are.0.some in let within = ends_within zero most end ends are.1 in absurd (omega (arith, some, within)))
one_ends block most bounds up_to zero [] (end ∷ ends) low are least are' least' =
    (let some = are'.0.some in let within = ends_within zero most end ends are'.1 in absurd (omega (arith, some, within)))
one_ends block most bounds zero (suc n) ends others low are least are' least' = absurd (omega (arith, low))
one_ends block most bounds (suc up_to) (suc n) ends others low are least are' least' =
    elim (last_of block (suc n) most bounds 0 ends are least) [
      | inl none ↦ absurd (omega (arith, none.1))
      | inr one ↦ elim (last_of block (suc n) most bounds 0 others are' least') [
        | inl none ↦ absurd (omega (arith, none.1))
        | inr other ↦
            let same = one_begin block most bounds one.last other.last (suc n) one.at other.at in
            let some = one.at.reached.is_block.some in
            let E : ℕ → Type 0 = λ k. AreEnds k most 0 other.front in
            let front = one_ends block most bounds up_to one.last one.front other.front (omega (arith, some, low)) one.ends_of one.least
            (subst E (sym same) other.ends_of) other.least in
            one.is ∙ ap (λ (l : List ℕ). l ++ suc n ∷ []) front ∙ sym other.is
      ]
    ]

-- 3. advice

pub one_advice : RunsHaveOneAdvice
one_advice n events most one other is too =
    let bounds = one_bounds (block_cost n events) n most one.bounds other.bounds is.certified.bounds too.certified.bounds in
    let L : List ℕ → Type 0 = λ l. AreLeast (block_cost n events) most l 0 other.ends in
    let ends = one_ends (block_cost n events) most one.bounds n n one.ends other.ends (omega arith) is.certified.ends is.least too.certified.ends
    (subst L (sym bounds) too.least) in
    let cost : one.cost ≡ other.cost = is.certified.last ∙ ap (λ (l : List ℕ). slice_index l n) bounds ∙ sym too.certified.last in
    build _ _ _ _ _ _ ends cost bounds
  where
    advice_of : List ℕ → ℕ → List ℕ → Advice
    advice_of ends cost bounds = record { ends = ends; cost = cost; bounds = bounds }

    build : (e e' : List ℕ) (c c' : ℕ) (b b' : List ℕ) → e ≡ e' → c ≡ c' → b ≡ b' → advice_of e c b ≡ advice_of e' c' b'
    build e e' c c' b b' ee cc bb = rw (ee, cc, bb) refl
