-- The cheapest ways, one end after the other.
use Rattle.std.proofs.Common.{◌≡◌, ◌≤◌, ◌<◌, ◌+◌, ◌-◌, ◌*◌, ◌^◌, ◌∷◌, ◌++◌, ◌∙◌, ◌⊎◌, List, [], ap, arith, if◌then◌else◌, inl, inr, length, length-append, nat_lt, refl, subst, sym, ℕ}
use Rattle.std.specs.Prelude.{slice_index}
use Rattle.std.proofs.lemmas.Bool.{cases_lt, ltb-false, ltb-true}
use Rattle.std.proofs.lemmas.List.{get_or_append_left, get_or_push}
use Rattle.run_model.proofs.Views.{test_cases}
use Rattle.plan_advice.specs.declared.ways.LastBlock.{LastBlock}
use Rattle.plan_advice.specs.Cuttings.{AreEnds, AreLeast, IsBlock, IsLeastReached, IsReached, cost_from}
use Rattle.plan_advice.specs.inside.Ways.{AreLed, AreWays, IsCheapest, LeadTo, cost_by}

-- 1. ways to one end

pub first_way : (block : ℕ → ℕ → ℕ) (most : ℕ) (bounds : List ℕ) (first end : ℕ) (way : LastBlock) → 0 < most → 0 < end → first ≡ end - most
    → way.begin ≡ first → way.cost ≡ cost_by block bounds first end → IsCheapest block most bounds (first + 1) end way
first_way block most bounds first end way some at is begins costs =
    let is_block : IsBlock most first end = record { some = omega (arith, some, at, is); few = omega (arith, is) } in
    let B : ℕ → Type 0 = λ k. IsBlock most k end in
    let C : ℕ → Type 0 = λ k. way.cost ≡ cost_by block bounds k end in
    record {
      is_block = subst B (sym begins) is_block;
      cost = subst C (sym begins) costs;
      before = omega (arith, begins);
      least = λ other below one.
          let few = one.few in
          let same : first ≡ other = omega (arith, below, few, is) in
          let D : ℕ → Type 0 = λ k. way.cost ≤ cost_by block bounds k end in
          subst D same (omega (arith, costs));
      first = λ other below one. (let few = one.few in absurd (omega (arith, below, few, is, begins)));
    }

abbrev pub cheaper_of : LastBlock → LastBlock → LastBlock
cheaper_of one other = if nat_lt other.cost one.cost then other else one

pub way_more : (block : ℕ → ℕ → ℕ) (most : ℕ) (bounds : List ℕ) (next end : ℕ) (best way best' : LastBlock) → next < end → IsCheapest block most bounds next end best
    → way.begin ≡ next → way.cost ≡ cost_by block bounds next end → best' ≡ cheaper_of best way → IsCheapest block most bounds (next + 1) end best'
way_more block most bounds next end best way best' below is begins costs chosen =
    let few = is.is_block.few in
    let before = is.before in
    let is_block : IsBlock most next end = record { some = below; few = omega (arith, few, before) } in
    let B : ℕ → Type 0 = λ k. IsBlock most k end in
    let C : ℕ → Type 0 = λ k. way.cost ≡ cost_by block bounds k end in
    elim (test_cases (nat_lt way.cost best.cost)) [
      | inl t ↦ (
          let same : best' ≡ way = rw t at chosen in
          let less : way.cost < best.cost = ltb-true way.cost best.cost t in
          let P : LastBlock → Type 0 = λ w. IsCheapest block most bounds (next + 1) end w in
          subst P (sym same) (record {
            is_block = subst B (sym begins) is_block;
            cost = subst C (sym begins) costs;
            before = omega (arith, begins);
            least = λ other under one. elim (last_or other next under) [
              | inl early ↦ (let was = is.least other early one in omega (arith, was, less))
              | inr last ↦ (let D : ℕ → Type 0 = λ k. way.cost ≤ cost_by block bounds k end in subst D (sym last) (omega (arith, costs)))
            ];
            first = λ other under one. (let was = is.least other (omega (arith, under, begins)) one in omega (arith, was, less));
          }))
      | inr f ↦ (
          let same : best' ≡ best = rw f at chosen in
          let more : best.cost ≤ way.cost = ltb-false way.cost best.cost f in
          let P : LastBlock → Type 0 = λ w. IsCheapest block most bounds (next + 1) end w in
          subst P (sym same) (record {
            is_block = is.is_block;
            cost = is.cost;
            before = omega (arith, before);
            least = λ other under one. elim (last_or other next under) [
              | inl early ↦ is.least other early one
              | inr last ↦ (let D : ℕ → Type 0 = λ k. best.cost ≤ cost_by block bounds k end in subst D (sym last) (omega (arith, costs, more)))
            ];
            first = is.first;
          }))
    ]
  where
    last_or : (k count : ℕ) → k < count + 1 → (k < count) ⊎ (k ≡ count)
    last_or k count under = elim (cases_lt k count) [ inl less ↦ inl less | inr most ↦ inr (omega (arith, under, most)) ]

-- 2. one end more

-- what stood in a list stands in the longer one
pub kept_at : (xs xs' : List ℕ) (x k : ℕ) → xs' ≡ xs ++ x ∷ [] → k < length xs → slice_index xs' k ≡ slice_index xs k
kept_at xs xs' x k grown below = ap (λ l. slice_index l k) grown ∙ get_or_append_left xs (x ∷ []) 0 k below

pub new_at : (xs xs' : List ℕ) (x k : ℕ) → xs' ≡ xs ++ x ∷ [] → length xs ≡ k → slice_index xs' k ≡ x
new_at xs xs' x k grown is = ap (λ l. slice_index l k) grown ∙ get_or_push xs x 0 k is

pub longer : (xs xs' : List ℕ) (x k : ℕ) → xs' ≡ xs ++ x ∷ [] → length xs ≡ k → length xs' ≡ k + 1
longer xs xs' x k grown is = (let one = length-append xs (x ∷ []) in let all = ap (λ l. length l) grown in omega (arith, one, all, is))

-- a bound and a beginning that were reached stay so
stays : (block : ℕ → ℕ → ℕ) (most : ℕ) (bounds bounds' : List ℕ) (x begin end : ℕ) → bounds' ≡ bounds ++ x ∷ [] → end < length bounds
    → IsReached block most bounds begin end → IsReached block most bounds' begin end
stays block most bounds bounds' x begin end grown below is =
    let some = is.is_block.some in
    let one = kept_at bounds bounds' x begin grown (omega (arith, some, below)) in
    let two = kept_at bounds bounds' x end grown below in
    let same = is.same in
    record { is_block = is.is_block; same = omega (arith, one, two, same) }

was : (block : ℕ → ℕ → ℕ) (most : ℕ) (bounds bounds' : List ℕ) (x begin end : ℕ) → bounds' ≡ bounds ++ x ∷ [] → end < length bounds
    → IsReached block most bounds' begin end → IsReached block most bounds begin end
was block most bounds bounds' x begin end grown below is =
    let some = is.is_block.some in
    let one = kept_at bounds bounds' x begin grown (omega (arith, some, below)) in
    let two = kept_at bounds bounds' x end grown below in
    let same = is.same in
    record { is_block = is.is_block; same = omega (arith, one, two, same) }

-- the new bound is reached by the way
new_reached : (block : ℕ → ℕ → ℕ) (most n : ℕ) (bounds bounds' : List ℕ) (way : LastBlock) → length bounds ≡ n + 1 → bounds' ≡ bounds ++ way.cost ∷ []
    → IsCheapest block most bounds (n + 1) (n + 1) way → IsLeastReached block most bounds' way.begin (n + 1)
new_reached block most n bounds bounds' way many grown is =
    let top : slice_index bounds' (n + 1) ≡ way.cost = new_at bounds bounds' way.cost (n + 1) grown many in
    let before = is.before in
    let here = kept_at bounds bounds' way.cost way.begin grown (omega (arith, before, many)) in
    let cost = is.cost in
    record {
      reached = record { is_block = is.is_block; same = omega (arith, top, here, cost) };
      least = λ other under reached.
          let there = kept_at bounds bounds' way.cost other grown (omega (arith, under, before, many)) in
          let same = reached.same in
          let more = is.first other under reached.is_block in
          omega (arith, there, same, more, top);
    }

pub ways_more : (block : ℕ → ℕ → ℕ) (most n : ℕ) (begins begins' bounds bounds' : List ℕ) (way : LastBlock)
    → AreWays block most n (record { begins = begins; bounds = bounds }) → IsCheapest block most bounds (n + 1) (n + 1) way → way.cost ≤ (n + 1) * 2 ^ 32
    → begins' ≡ begins ++ way.begin ∷ [] → bounds' ≡ bounds ++ way.cost ∷ []
    → AreWays block most (n + 1) (record { begins = begins'; bounds = bounds' })
ways_more block most n begins begins' bounds bounds' way are is small began grown =
    let many = are.certificate.many in
    let top : slice_index bounds' (n + 1) ≡ way.cost = new_at bounds bounds' way.cost (n + 1) grown many in
    let new : IsLeastReached block most bounds' way.begin (n + 1) = new_reached block most n bounds bounds' way many grown is in
    let long : length bounds' ≡ n + 1 + 1 = longer bounds bounds' way.cost (n + 1) grown many in
    let new_begin : slice_index begins' (n + 1) ≡ way.begin = new_at begins begins' way.begin (n + 1) began are.many in
    record {
      certificate = record {
        many = long;
        first = kept_at bounds bounds' way.cost 0 grown (omega (arith, many)) ∙ are.certificate.first;
        below = λ begin end within one. elim (last_or end (n + 1) (omega (arith, within))) [
          | inl early ↦ (
              let some = one.some in
              let here = kept_at bounds bounds' way.cost begin grown (omega (arith, some, early, many)) in
              let there = kept_at bounds bounds' way.cost end grown (omega (arith, early, many)) in
              let so = are.certificate.below begin end (omega (arith, early)) one in
              omega (arith, here, there, so))
          | inr last ↦ (
              let B : ℕ → Type 0 = λ k. IsBlock most begin k in
              let this : IsBlock most begin (n + 1) = subst B last one in
              let some = this.some in
              let here = kept_at bounds bounds' way.cost begin grown (omega (arith, some, many)) in
              let so = is.least begin some this in
              let D : ℕ → Type 0 = λ k. slice_index bounds' k ≤ slice_index bounds' begin + block begin k in
              subst D (sym last) (omega (arith, here, top, so)))
        ];
        reached = λ end some within. elim (last_or end (n + 1) (omega (arith, within))) [
          | inl early ↦ (
              let so = are.certificate.reached end some (omega (arith, early)) in
              (so.0, stays block most bounds bounds' way.cost so.0 end grown (omega (arith, early, many)) so.1))
          | inr last ↦ (
              let R : ℕ → Type 0 = λ k. IsReached block most bounds' way.begin k in
              (way.begin, subst R (sym last) new.reached))
        ];
      };
      small = λ k within. elim (last_or k (n + 1) (omega (arith, within, long))) [
        | inl early ↦ (
            let so = are.small k (omega (arith, early, many)) in
            let there = kept_at bounds bounds' way.cost k grown (omega (arith, early, many)) in
            omega (arith, so, there))
        | inr last ↦ (let D : ℕ → Type 0 = λ k. slice_index bounds' k ≤ k * 2 ^ 32 in subst D (sym last) (omega (arith, top, small)))
      ];
      many = longer begins begins' way.begin (n + 1) began are.many;
      begins = λ end some within. elim (last_or end (n + 1) (omega (arith, within))) [
        | inl early ↦ (
            let so = are.begins end some (omega (arith, early)) in
            let same : slice_index begins' end ≡ slice_index begins end = kept_at begins begins' way.begin end began (let long = are.many in omega (arith, early, long)) in
            let R : ℕ → Type 0 = λ k. IsLeastReached block most bounds' k end in
            let less : end < length bounds = omega (arith, early, many) in
            subst R (sym same) (record {
              reached = stays block most bounds bounds' way.cost (slice_index begins end) end grown less so.reached;
              least = λ other under reached. so.least other under (was block most bounds bounds' way.cost other end grown less reached);
            }))
        | inr last ↦ (
            let R : ℕ → Type 0 = λ k. IsLeastReached block most bounds' (slice_index begins' k) k in
            let S : ℕ → Type 0 = λ k. IsLeastReached block most bounds' k (n + 1) in
            subst R (sym last) (subst S (sym new_begin) new))
      ];
    }
  where
    last_or : (k count : ℕ) → k < count + 1 → (k < count) ⊎ (k ≡ count)
    last_or k count under = elim (cases_lt k count) [ inl less ↦ inl less | inr most ↦ inr (omega (arith, under, most)) ]

pub first_ways : (block : ℕ → ℕ → ℕ) (most : ℕ) (begins bounds : List ℕ) → begins ≡ 0 ∷ [] → bounds ≡ 0 ∷ [] → AreWays block most 0 (record { begins = begins; bounds = bounds })
first_ways block most begins bounds began grown =
    let many : length bounds ≡ 0 + 1 = ap (λ l. length l) grown in
    let first : slice_index bounds 0 ≡ 0 = ap (λ l. slice_index l 0) grown in
    record {
      certificate = record {
        many = many;
        first = first;
        below = λ begin end within one. (let some = one.some in absurd (omega (arith, within, some)));
        reached = λ end some within. absurd (omega (arith, some, within));
      };
      small = λ k within. (let zero_k : k ≡ 0 = omega (arith, within, many) in let D : ℕ → Type 0 = λ k. slice_index bounds k ≤ k * 2 ^ 32 in subst D (sym zero_k) (omega (arith, first)));
      many = ap (λ l. length l) began;
      begins = λ end some within. absurd (omega (arith, some, within));
    }

-- 3. the ends

ends_push : (most n begin end : ℕ) (ends : List ℕ) → AreEnds n most begin ends → IsBlock most n end → AreEnds end most begin (ends ++ end ∷ [])
ends_push most n begin end [] are one = (let B : ℕ → Type 0 = λ k. IsBlock most k end in subst B (sym are) one, refl)
ends_push most n begin end (first ∷ ends) are one = (are.0, ends_push most n first end ends are.1 one)

cost_push : (block : ℕ → ℕ → ℕ) (most n begin end : ℕ) (ends : List ℕ) → AreEnds n most begin ends → cost_from block begin (ends ++ end ∷ []) ≡ cost_from block begin ends + block n end
cost_push block most n begin end [] are = (let same = ap (λ k. block k end) are in omega (arith, same))
cost_push block most n begin end (first ∷ ends) are = (let rest = cost_push block most n first end ends are.1 in omega (arith, rest))

least_push : (block : ℕ → ℕ → ℕ) (most : ℕ) (bounds : List ℕ) (n begin end : ℕ) (ends : List ℕ) → AreEnds n most begin ends → AreLeast block most bounds begin ends
    → IsLeastReached block most bounds n end → AreLeast block most bounds begin (ends ++ end ∷ [])
least_push block most bounds n begin end [] are least one = (let B : ℕ → Type 0 = λ k. IsLeastReached block most bounds k end in subst B (sym are) one, tt)
least_push block most bounds n begin end (first ∷ ends) are least one = (least.0, least_push block most bounds n first end ends are.1 least.1 one)

pub no_ends : (begins : List ℕ) (end : ℕ) (ends : List ℕ) → end ≡ 0 → ends ≡ [] → AreLed begins end ends
no_ends begins end ends none empty block most bounds first are =
    let P : ℕ → Type 0 = λ k. LeadTo block most bounds k ends in
    let Q : List ℕ → Type 0 = λ l. LeadTo block most bounds 0 l in
    subst P (sym none) (subst Q (sym empty) (record { cutting = refl; cost = sym first; least = tt }))

pub ends_more : (begins : List ℕ) (begin end : ℕ) (ends ends' : List ℕ) → 0 < end → begin ≡ slice_index begins end → AreLed begins begin ends → ends' ≡ ends ++ end ∷ []
    → AreLed begins end ends'
ends_more begins begin end ends ends' some at led grown block most bounds first are =
    let R : ℕ → Type 0 = λ k. IsLeastReached block most bounds k end in
    let here : IsLeastReached block most bounds begin end = subst R (sym at) (are end some (omega arith)) in
    let one = here.reached.is_block in
    let less = one.some in
    let so = led block most bounds first (λ k some within. are k some (omega (arith, within, less))) in
    let push = cost_push block most begin 0 end ends so.cutting in
    let cost = so.cost in
    let same = here.reached.same in
    let Q : List ℕ → Type 0 = λ l. LeadTo block most bounds end l in
    subst Q (sym grown) (record {
      cutting = ends_push most begin 0 end ends so.cutting one;
      cost = omega (arith, push, cost, same);
      least = least_push block most bounds begin 0 end ends so.cutting so.least here;
    })
