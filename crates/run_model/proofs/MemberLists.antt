-- The members that a communicator of a rank can have.
use Rattle.std.proofs.Common.{◌+◌, ◌<◌, ◌==◌, ◌∙◌, ◌∷◌, ◌≡◌, ◌≤◌, List, [], arith, false, inl, inr, nat_lt, refl, subst, suc, sym, true, zero, ℕ, ℤ}
use Rattle.std.proofs.lemmas.Bool.{and_parts, eq-eqb, eqb-true, lt-ltb, or_left, or_right}
use Rattle.mpi_call.specs.declared.call.Call.{Call}
use Rattle.mpi_call.specs.Calls.{ints_of, makes}
use Rattle.mpi_call.specs.Collectives.{is_distinct, is_member, is_uncoloured, members_made}
use Rattle.mpi_call.specs.Results.{input_of}
use Rattle.mpi_call.proofs.MadeLemmas.{members_made-distinct, members_made-me, members_made-subset}
use Rattle.run_model.specs.Forms.{AreMembers}
use Rattle.run_model.specs.Lists.{are_below, same_ranks, world}
use Rattle.run_model.proofs.Views.{test_cases}

-- ranks of a part are below n where all are
pub below_member : (n : ℕ) (members : List ℕ) (rank : ℕ) → are_below n members ≡ true → is_member members rank ≡ true
    → nat_lt rank n ≡ true
below_member n [] rank below member = absurd (cc)
below_member n (m ∷ members) rank below member =
    let parts = and_parts (nat_lt m n) (are_below n members) below in
    elim (test_cases (m == rank)) [
      | inl h ↦ (let F : ℕ → Type 0 = λ x. nat_lt x n ≡ true in subst F (eqb-true m rank h) parts.0)
      | inr h ↦ below_member n members rank parts.1 (rw h at member)
    ]

pub below_part : (n : ℕ) (members others : List ℕ) → are_below n members ≡ true
    → ((rank : ℕ) → is_member others rank ≡ true → is_member members rank ≡ true) → are_below n others ≡ true
below_part n members [] below part = refl
below_part n members (m ∷ others) below part =
    let here : is_member (m ∷ others) m ≡ true = or_left (m == m) (is_member others m) (eq-eqb m m refl) in
    let first = below_member n members m below (part m here) in
    let rest = below_part n members others below (λ rank member. part rank (or_right (m == rank) (is_member others rank) member)) in
    rw (first, rest)

pub same_ranks-refl : (xs : List ℕ) → same_ranks xs xs ≡ true
same_ranks-refl [] = refl
same_ranks-refl (x ∷ xs) = rw (eq-eqb x x refl) (same_ranks-refl xs)

-- all ranks: they are below n, distinct, and have each rank below n
below_world : (count from n : ℕ) → from + count ≤ n → are_below n (world count from) ≡ true
below_world zero from n h = refl
below_world (suc count) from n h =
    rw (lt-ltb from n (omega arith), below_world count (from + 1) n (omega arith))

not_in_world : (count from rank : ℕ) → rank < from → is_member (world count from) rank ≡ false
not_in_world zero from rank h = refl
not_in_world (suc count) from rank h =
    elim (test_cases (from == rank)) [
      | inl t ↦ (let same : from ≡ rank = eqb-true from rank t in absurd (omega (arith, h)))
      | inr t ↦ rw (t, not_in_world count (from + 1) rank (omega arith))
    ]

distinct_world : (count from : ℕ) → is_distinct (world count from) ≡ true
distinct_world zero from = refl
distinct_world (suc count) from = rw (not_in_world count (from + 1) from (omega arith), distinct_world count (from + 1))

in_world : (count from rank : ℕ) → from ≤ rank → rank < from + count → is_member (world count from) rank ≡ true
in_world zero from rank low high = absurd (omega arith)
in_world (suc count) from rank low high =
    elim (test_cases (from == rank)) [
      | inl t ↦ rw t
      | inr t ↦ (
          let apart : from ≡ rank → ⊥ = λ e. (let yes : (from == rank) ≡ true = eq-eqb from rank e in let no : true ≡ false = sym yes ∙ t in cc) in
          rw (t, in_world count (from + 1) rank (omega arith) (omega arith)))
    ]

pub AreMembers-world : (n r : ℕ) → r < n → AreMembers n r (world n 0)
AreMembers-world n r h =
    record { below = below_world n 0 n (omega arith); distinct = distinct_world n 0; has_me = in_world n 0 r (omega arith) (omega arith) }

pub AreMembers-made : (n r : ℕ) (enter : Call) (members : List ℕ) (inputs : List (List ℤ)) → makes enter ≡ true
    → is_uncoloured enter ≡ false → AreMembers n r members → input_of members inputs r ≡ ints_of enter
    → AreMembers n r (members_made enter members inputs r)
AreMembers-made n r enter members inputs makes_is coloured are own =
    record {
      below = below_part n members (members_made enter members inputs r) are.below (λ rank member. members_made-subset enter members inputs r rank member);
      distinct = members_made-distinct enter members inputs r are.distinct;
      has_me = members_made-me enter members inputs r makes_is coloured are.has_me own;
    }
