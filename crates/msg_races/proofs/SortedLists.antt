-- Sorted and joined lists of things with names.
use Rattle.std.proofs.Common.{◌≡◌, ◌≤◌, ◌<◌, ◌⊎◌, ◌+◌, ◌++◌, ◌∷◌, [], ℕ, zero, suc, List, inl, inr, ap, arith, subst, refl, sym, ◌∙◌}
use Rattle.mpi_call.specs.Lists.{IsIn}
use Rattle.msg_races.specs.declared.names.Name.{Name}
use Rattle.msg_races.specs.Listing.{lists_below}
use Rattle.msg_races.specs.Names.{AreSorted, ComesBefore}

pub in_parts : {A : Type 0} (a : A) (xs ys : List A) → IsIn a (xs ++ ys) → IsIn a xs ⊎ IsIn a ys
in_parts a [] ys h = inr h
in_parts a (x ∷ xs) ys h = elim h [
  | inl e ↦ inl (inl e)
  | inr later ↦ elim (in_parts a xs ys later) [ inl l ↦ inl (inr l) | inr r ↦ inr r ]
]

pub in_front : {A : Type 0} (a : A) (xs ys : List A) → IsIn a xs → IsIn a (xs ++ ys)
in_front a [] ys h = absurd h
in_front a (x ∷ xs) ys h = elim h [ inl e ↦ inl e | inr later ↦ inr (in_front a xs ys later) ]

pub in_back : {A : Type 0} (a : A) (xs ys : List A) → IsIn a ys → IsIn a (xs ++ ys)
in_back a [] ys h = h
in_back a (x ∷ xs) ys h = inr (in_back a xs ys h)

pub sorted_append : {A : Type 0} (name : A → Name) (xs ys : List A) → AreSorted name xs → AreSorted name ys
    → ((a b : A) → IsIn a xs → IsIn b ys → ComesBefore (name a) (name b)) → AreSorted name (xs ++ ys)
sorted_append name [] ys first second across = second
sorted_append name (x ∷ xs) ys first second across = (
  λ later there. elim (in_parts later xs ys there) [
    | inl l ↦ first.0 later l
    | inr r ↦ across x later (inl refl) r
  ],
  sorted_append name xs ys first.1 second (λ a b in_xs in_ys. across a b (inr in_xs) in_ys),
)

-- sorted lists with the same elements are the same
not_both : (a b : Name) → ComesBefore a b → ComesBefore b a → ⊥
not_both a b (inl one) (inl other) = omega (arith, one, other)
not_both a b (inl one) (inr other) = (let same = other.0 in omega (arith, one, same))
not_both a b (inr one) (inl other) = (let same = one.0 in omega (arith, same, other))
not_both a b (inr one) (inr other) = (let less = one.1 in let more = other.1 in omega (arith, less, more))

abbrev pub AreWithin : {A : Type 0} → List A → List A → Type 0
AreWithin xs ys = (a : _) → IsIn a xs → IsIn a ys

same_first : {A : Type 0} (name : A → Name) (x y : A) (xs ys : List A) → AreSorted name (x ∷ xs) → AreSorted name (y ∷ ys) → IsIn x (y ∷ ys) → IsIn y (x ∷ xs) → x ≡ y
same_first name x y xs ys one other there here = elim there [
  | inl same ↦ sym same
  | inr later ↦ elim here [
    | inl same ↦ same
    | inr behind ↦ absurd (not_both (name x) (name y) (one.0 y behind) (other.0 x later))
  ]
]

rest_within : {A : Type 0} (name : A → Name) (x : A) (xs ys : List A) → AreSorted name (x ∷ xs) → AreWithin (x ∷ xs) (x ∷ ys) → AreWithin xs ys
rest_within name x xs ys sorted within a there = elim (within a (inr there)) [
  | inl same ↦ (
      let before = sorted.0 a there in
      let F : Name → Type 0 = λ n. ComesBefore n (name a) in
      let again : ComesBefore (name a) (name a) = subst F (ap name same) before in
      absurd (not_both (name a) (name a) again again))
  | inr later ↦ later
]

pub same_sorted : {A : Type 0} (name : A → Name) (xs ys : List A) → AreSorted name xs → AreSorted name ys → AreWithin xs ys → AreWithin ys xs → xs ≡ ys
same_sorted name [] [] one other within back = refl
same_sorted name [] (y ∷ ys) one other within back = absurd (back y (inl refl))
same_sorted name (x ∷ xs) [] one other within back = absurd (within x (inl refl))
same_sorted name (x ∷ xs) (y ∷ ys) one other within back =
    let same : y ≡ x = sym (same_first name x y xs ys one other (within x (inl refl)) (back y (inl refl))) in
    let S : _ → Type 0 = λ z. AreSorted name (z ∷ ys) in
    let W : _ → Type 0 = λ z. AreWithin (x ∷ xs) (z ∷ ys) in
    let B : _ → Type 0 = λ z. AreWithin (z ∷ ys) (x ∷ xs) in
    let rest : xs ≡ ys = same_sorted name xs ys one.1 other.1 (rest_within name x xs ys one (subst W same within)) (rest_within name x ys xs (subst S same other) (subst B same back)) in
    ap (λ l. x ∷ l) rest ∙ ap (λ z. z ∷ ys) (sym same)

-- what is given for the ranks below a number
pub record IsGiven {A : Type 0} (lists : ℕ → List A) (ranks : ℕ) (a : A) : Type 0 where
  pub rank : ℕ
  pub below : rank < ranks
  pub given : IsIn a (lists rank)

pub in_joined : {A : Type 0} (lists : ℕ → List A) (ranks : ℕ) (a : A) → IsIn a (lists_below lists ranks) → IsGiven lists ranks a
in_joined lists zero a h = absurd h
in_joined lists (suc ranks) a h = elim (in_parts a (lists_below lists ranks) (lists ranks) h) [
  | inl l ↦ (let rest = in_joined lists ranks a l in let low = rest.below in record { rank = rest.rank; below = omega (arith, low); given = rest.given })
  | inr r ↦ record { rank = ranks; below = omega arith; given = r }
]

pub test_last : (a b : ℕ) → a ≤ b → (a ≡ b) ⊎ (a < b)
test_last zero zero h = inl refl
test_last zero (suc b) h = inr (omega arith)
test_last (suc a) zero h = absurd (omega (arith, h))
test_last (suc a) (suc b) h = elim (test_last a b (omega (arith, h))) [ inl e ↦ inl (ap suc e) | inr l ↦ inr (omega (arith, l)) ]

pub joined_in : {A : Type 0} (lists : ℕ → List A) (ranks rank : ℕ) (a : A) → rank < ranks → IsIn a (lists rank) → IsIn a (lists_below lists ranks)
joined_in lists zero rank a low h = absurd (omega (arith, low))
joined_in lists (suc ranks) rank a low h = elim (test_last rank ranks (omega (arith, low))) [
  | inl e ↦ in_back a (lists_below lists ranks) (lists ranks) (let P : ℕ → Type 0 = λ r. IsIn a (lists r) in subst P e h)
  | inr less ↦ in_front a (lists_below lists ranks) (lists ranks) (joined_in lists ranks rank a less h)
]

-- lists whose names have the rank that they are given for
pub sorted_joined : {A : Type 0} (name : A → Name) (lists : ℕ → List A) (ranks : ℕ)
    → ((rank : ℕ) → AreSorted name (lists rank)) → ((rank : ℕ) (a : A) → IsIn a (lists rank) → (name a).rank ≡ rank) → AreSorted name (lists_below lists ranks)
sorted_joined name lists zero each own = tt
sorted_joined name lists (suc ranks) each own =
    sorted_append name (lists_below lists ranks) (lists ranks) (sorted_joined name lists ranks each own) (each ranks) (λ a b first second.
    let given = in_joined lists ranks a first in
    let low = given.below in
    let one = own given.rank a given.given in
    let other = own ranks b second in
    inl (omega (arith, low, one, other)))

pub joined-next : {A : Type 0} (lists : ℕ → List A) (ranks : ℕ) → lists_below lists (ranks + 1) ≡ lists_below lists ranks ++ lists ranks
joined-next lists ranks = (let next : ranks + 1 ≡ suc ranks = omega arith in ap (lists_below lists) next)
