-- Distinct ranks below n are at most n.
use Rattle.std.proofs.Common.{◌≡◌, ◌≤◌, ◌<◌, ◌∙◌, ◌==◌, ◌∷◌, [], ℕ, List, true, false, inl, inr, arith, length, nat_lt, sym}
use Rattle.std.specs.List.{AllByRecursion, IsDistinct, list_any}
use Rattle.std.proofs.lemmas.Bool.{and_parts, eq-eqb, eqb-true, ltb-true, or_cases, or_parts}
use Rattle.std.proofs.lemmas.Map.Steps.{length-le_from_distinct_below}
use Rattle.mpi_call.specs.Members.{is_distinct, is_member}
use Rattle.run_model.specs.Lists.{are_below}
use Rattle.run_model.proofs.Views.{test_cases}

apart_from : (x : ℕ) (xs : List ℕ) → is_member xs x ≡ false → AllByRecursion (λ y. (x == y) ≡ false) xs
apart_from x [] none = tt
apart_from x (y ∷ ys) none =
    let parts = or_parts (y == x) (is_member ys x) none in (
      elim (test_cases (x == y)) [
        | inl t ↦ absurd (let no : true ≡ false = sym (eq-eqb y x (sym (eqb-true x y t))) ∙ parts.0 in cc)
        | inr t ↦ t
      ],
      apart_from x ys parts.1,
    )

distinct_keys : (xs : List ℕ) → is_distinct xs ≡ true → IsDistinct ◌==◌ xs
unfolding IsDistinct
distinct_keys [] distinct = tt
distinct_keys (x ∷ xs) distinct = elim (test_cases (is_member xs x)) [
  | inl t ↦ absurd (let no : false ≡ true = rw t at distinct in cc)
  | inr t ↦ (apart_from x xs t, distinct_keys xs (rw t at distinct))
]

key_below : (n : ℕ) (xs : List ℕ) (rank : ℕ) → are_below n xs ≡ true → list_any (λ y. rank == y) xs ≡ true → rank < n
key_below n [] rank below there = absurd (cc)
key_below n (x ∷ xs) rank below there =
    let parts = and_parts (nat_lt x n) (are_below n xs) below in
    elim (or_cases (rank == x) (list_any (λ y. rank == y) xs) there) [
      | inl t ↦ (let same = eqb-true rank x t in let low = ltb-true x n parts.0 in omega (arith, same, low))
      | inr t ↦ key_below n xs rank parts.1 t
    ]

pub few_ranks : (n : ℕ) (xs : List ℕ) → are_below n xs ≡ true → is_distinct xs ≡ true → length xs ≤ n
few_ranks n xs below distinct = length-le_from_distinct_below xs n (distinct_keys xs distinct) (λ rank there. key_below n xs rank below there)
