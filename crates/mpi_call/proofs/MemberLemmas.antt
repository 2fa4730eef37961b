-- A member's place.
use Rattle.std.proofs.Common.{◌≡◌, ℕ, zero, suc, ◌+◌, ◌<◌, ◌≤◌, List, [], ◌∷◌, length, get_or, true, false, sym, refl, inl, inr, arith}
use Rattle.std.proofs.lemmas.Bool.{cases_Bool, eqb-true, eq-eqb}
use Rattle.std.proofs.lemmas.List.Sums.{position_or_len_is}
use Rattle.std.specs.Prelude.{◌==◌}
use Rattle.mpi_call.specs.Members.{is_member, place_of}

-- it is the first at which the rank stands, or the length
pub place_of_is : (members : List ℕ) (rank place : ℕ) → place ≤ length members
    → ((k : ℕ) → k < place → (get_or members k 0 == rank) ≡ false)
    → (place < length members → (get_or members place 0 == rank) ≡ true) → place ≡ place_of members rank
place_of_is members rank place within before here = sym (position_or_len_is (λ member. member == rank) members place 0 within before here)

-- a member's place is within the list
pub place_of-within : (members : List ℕ) (rank : ℕ) → is_member members rank ≡ true → place_of members rank < length members
place_of-within [] rank h = absurd (cc)
place_of-within (member ∷ members) rank h =
    elim (cases_Bool (member == rank)) [
      | inl same ↦ rw (same) (omega arith)
      | inr other ↦ let deeper : place_of members rank < length members = place_of-within members rank (rw other at h) in rw (other) (omega arith)
    ]

-- and the member stands there
pub at_place_of : (members : List ℕ) (rank : ℕ) → is_member members rank ≡ true → get_or members (place_of members rank) 0 ≡ rank
at_place_of [] rank h = absurd (cc)
at_place_of (member ∷ members) rank h =
    elim (cases_Bool (member == rank)) [
      | inl same ↦ rw (same) (eqb-true member rank same)
      | inr other ↦
          let deeper : get_or members (place_of members rank) 0 ≡ rank = at_place_of members rank (rw other at h) in
          let one_more : 1 + place_of members rank ≡ suc (place_of members rank) = omega arith in
          rw (other, one_more) deeper
    ]

-- the first place of what stands at k is not above k
pub place_of_at : (members : List ℕ) (k : ℕ) → k < length members → place_of members (get_or members k 0) ≤ k
place_of_at [] k h = absurd (omega arith)
place_of_at (member ∷ members) zero h = rw (eq-eqb member member refl) (omega arith)
place_of_at (member ∷ members) (suc k) h =
    let deeper : place_of members (get_or members k 0) ≤ k = place_of_at members k (omega arith) in
    elim (cases_Bool (member == get_or members k 0)) [
      | inl same ↦ rw (same) (omega arith)
      | inr other ↦ rw (other) (omega arith)
    ]

-- what stands at a place is a member
pub is_member_at : (members : List ℕ) (k : ℕ) → k < length members → is_member members (get_or members k 0) ≡ true
is_member_at [] k h = absurd (omega arith)
is_member_at (member ∷ members) zero h = rw (eq-eqb member member refl) refl
is_member_at (member ∷ members) (suc k) h =
    let deeper : is_member members (get_or members k 0) ≡ true = is_member_at members k (omega arith) in
    elim (cases_Bool (member == get_or members k 0)) [ inl same ↦ rw (same) refl | inr other ↦ rw (other) deeper ]
