-- The least rank of two groups, found by reading one of them from its front.
use Rattle.std.proofs.Common.{◌≡◌, ◌<◌, ◌≤◌, ◌⊎◌, ◌∙◌, ◌∷◌, ◌==◌, Bool, List, None, Option, Some, [], ap, arith, false, inl, inr, length, refl, subst, sym, true, ◌||◌, ℕ}
use Rattle.std.proofs.lemmas.Bool.{eq-eqb, eqb-true, or_cases}
use Rattle.mpi_call.specs.Collectives.{is_member}
use Rattle.run_model.proofs.Views.{test_cases}
use Rattle.srr_regroup.specs.Joining.{IsLeastShared, lesser, lesser_shared}

-- the least so far, after these ranks
abbrev pub least_after : List ℕ → List ℕ → Option ℕ → Option ℕ
least_after two [] least = least
least_after two (rank ∷ rest) least = least_after two rest (lesser_shared two least rank)

-- what was found is at most each shared rank, and is one of them or the least before
record Found (two rest : List ℕ) (least found : Option ℕ) : Type 0 where
  some : (rank : ℕ) → found ≡ Some rank → (least ≡ Some rank) ⊎ ((is_member rest rank ≡ true) × (is_member two rank ≡ true))
  first : (before : ℕ) → least ≡ Some before → (rank : ℕ) × (found ≡ Some rank) × (rank ≤ before)
  each : (other : ℕ) → is_member rest other ≡ true → is_member two other ≡ true → (rank : ℕ) × (found ≡ Some rank) × (rank ≤ other)

lesser_either : (least : Option ℕ) (rank : ℕ) → (least ≡ Some (lesser least rank)) ⊎ (rank ≡ lesser least rank)
lesser_either None rank = inr refl
lesser_either (Some least) rank = grind arith

lesser_rank : (least : Option ℕ) (rank : ℕ) → lesser least rank ≤ rank
lesser_rank None rank = omega arith
lesser_rank (Some least) rank = omega arith

lesser_first : (least : Option ℕ) (rank before : ℕ) → least ≡ Some before → lesser least rank ≤ before
lesser_first None rank before is = absurd (cc)
lesser_first (Some least) rank before is = (let same : least ≡ before = cc in omega (arith, same))

or-true : (b : Bool) → b ≡ true → (c : Bool) → (b || c) ≡ true
or-true b is c = rw is

or-rest : (b c : Bool) → c ≡ true → (b || c) ≡ true
or-rest true c is = refl
or-rest false c is = is

-- the front rank is shared
found_shared : (two rest : List ℕ) (rank : ℕ) (least : Option ℕ) → is_member two rank ≡ true
    → Found two rest (Some (lesser least rank)) (least_after two rest (Some (lesser least rank)))
    → Found two (rank ∷ rest) least (least_after two rest (Some (lesser least rank)))
found_shared two rest rank least shared after = record {
  some = λ r is. elim (after.some r is) [
    | inl now ↦ (
        let same : lesser least rank ≡ r = cc in
        elim (lesser_either least rank) [
          | inl was ↦ inl (was ∙ ap (λ (x : ℕ). Some x) same)
          | inr it ↦ (
              let is_r : rank ≡ r = it ∙ same in
              let F : ℕ → Type 0 = λ x. is_member two x ≡ true in
              inr (or-true (rank == r) (eq-eqb rank r is_r) (is_member rest r), subst F is_r shared))
        ])
    | inr there ↦ inr (or-rest (rank == r) (is_member rest r) there.0, there.1)
  ];
  first = λ before is. (
      let now = after.first (lesser least rank) refl in
      let less = lesser_first least rank before is in
      let most = now.2 in
      (now.0, now.1, omega (arith, less, most)));
  each = λ other among has. elim (or_cases (rank == other) (is_member rest other) among) [
    | inl same ↦ (
        let now = after.first (lesser least rank) refl in
        let less = lesser_rank least rank in
        let most = now.2 in
        let is_other : rank ≡ other = eqb-true rank other same in
        (now.0, now.1, omega (arith, less, most, is_other)))
    | inr there ↦ after.each other there has
  ];
}

-- the front rank is in one group alone
found_alone : (two rest : List ℕ) (rank : ℕ) (least : Option ℕ) → is_member two rank ≡ false
    → Found two rest least (least_after two rest least) → Found two (rank ∷ rest) least (least_after two rest least)
found_alone two rest rank least alone after = record {
  some = λ r is. elim (after.some r is) [
    | inl now ↦ inl now
    | inr there ↦ inr (or-rest (rank == r) (is_member rest r) there.0, there.1)
  ];
  first = λ before is. after.first before is;
  each = λ other among has. elim (or_cases (rank == other) (is_member rest other) among) [
    | inl same ↦ (
        let is_other : rank ≡ other = eqb-true rank other same in
        let F : ℕ → Type 0 = λ x. is_member two x ≡ false in
        let not_there : is_member two other ≡ false = subst F is_other alone in
        let t : true ≡ false = sym has ∙ not_there in
        absurd (cc))
    | inr there ↦ after.each other there has
  ];
}

found : (two rest : List ℕ) (least : Option ℕ) → Found two rest least (least_after two rest least)
found two [] least = record {
  some = λ rank is. inl is;
  first = λ before is. (before, is, omega arith);
  each = λ other among has. (let t : false ≡ true = among in absurd (cc));
}
found two (rank ∷ rest) least =
    elim (test_cases (is_member two rank)) [
      | inl shared ↦ rw shared (found_shared two rest rank least shared (found two rest (Some (lesser least rank))))
      | inr alone ↦ rw alone (found_alone two rest rank least alone (found two rest least))
    ]

pub least_is : (one two : List ℕ) (rank : ℕ) → least_after two one None ≡ Some rank → IsLeastShared one two rank
least_is one two rank is =
    let all = found two one None in
    elim (all.some rank is) [
      | inl none ↦ absurd (cc)
      | inr there ↦ record {
        first = there.0;
        second = there.1;
        least = λ other less among. elim (test_cases (is_member two other)) [
          | inl has ↦ (
              let now = all.each other among has in
              let same : Some now.0 ≡ Some rank = sym now.1 ∙ is in
              let is_rank : now.0 ≡ rank = cc in
              let most = now.2 in
              absurd (omega (arith, less, most, is_rank)))
          | inr none ↦ none
        ];
      }
    ]

pub none_is : (one two : List ℕ) → least_after two one None ≡ None → (rank : ℕ) → is_member one rank ≡ true → is_member two rank ≡ false
none_is one two is rank among =
    elim (test_cases (is_member two rank)) [
      | inl has ↦ (
          let now = (found two one None).each rank among has in
          let same : Some now.0 ≡ None = sym now.1 ∙ is in
          absurd (cc))
      | inr none ↦ none
    ]

-- no rank is left
pub after_all : (two rest : List ℕ) (least : Option ℕ) → length rest < 1 → least_after two rest least ≡ least
after_all two [] least short = refl
after_all two (rank ∷ rest) least short = absurd (omega (arith, short))
