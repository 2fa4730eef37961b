-- The chosen and the listed starts of a Take.
use Rattle.std.proofs.Common.{◌&&◌, ◌+◌, ◌<◌, ◌==◌, ◌∷◌, ◌≡◌, ◌≤◌, Bool, List, None, Some, [], arith, false, inl, inr, length, map, nat_le, nat_lt, not, refl, slice_index, subst, suc, true, zero, ℕ}
use Rattle.std.proofs.lemmas.Bool.{and_parts, eq-eqb, le-leb, lt-ltb, ltb-true, or_left, or_right}
use Rattle.std.specs.List.{list_all, list_any}
use Rattle.std.specs.Prelude.{is_some}
use Rattle.mpi_call.specs.declared.call.TakeMode.{TakeMode}
use Rattle.mpi_call.specs.declared.call.TakeMode.TheVariants.{All, Any as AnyOne, Several, TestAll, TestAny, TestSeveral}
use Rattle.mpi_call.specs.declared.reply.Item.{Item}
use Rattle.mpi_call.specs.Collectives.{is_member}
use Rattle.run_model.specs.Allowed.{AreChosen, IsOne, first_long, mode_holds, is_long, true_places}
use Rattle.run_model.specs.Due.{bad_request}
use Rattle.run_model.specs.Shape.{can_take, has_count, rise_within}
use Rattle.run_model.specs.Views.{View, start_at, taken_of}
use Rattle.run_model.proofs.StartLemmas.{slice_get-below}
use Rattle.run_model.proofs.Views.{test_cases}

-- In a run, the entry of a Take fits it.
-- chosen places
rises_places : (from low len : ℕ) (flags : List Bool) → from ≤ low → low + length flags ≡ len
    → rise_within from len (true_places low flags) ≡ true
rises_places from low len [] h e = refl
rises_places from low len (true ∷ flags) h e =
    let one : nat_le from low ≡ true = le-leb from low h in
    let two : nat_lt low len ≡ true = lt-ltb low len (omega arith) in
    rw (one, two, rises_places (low + 1) (low + 1) len flags (omega arith) (omega arith))
rises_places from low len (false ∷ flags) h e = rises_places from (low + 1) len flags (omega arith) (omega arith)

count_places : (low : ℕ) (flags : List Bool) → list_all (λ x. x) flags ≡ true → length (true_places low flags) ≡ length flags
count_places low [] h = refl
count_places low (true ∷ flags) h = (let rest = count_places (low + 1) flags h in omega (arith, rest))
count_places low (false ∷ flags) h = absurd (cc)

some_places : (low : ℕ) (flags : List Bool) → list_any (λ x. x) flags ≡ true → 0 < length (true_places low flags)
some_places low [] h = absurd (cc)
some_places low (true ∷ flags) h = omega arith
some_places low (false ∷ flags) h = some_places (low + 1) flags h

pub record ChosenFits (mode : TakeMode) (len : ℕ) (indices : List ℕ) : Type 0 where
  pub count : has_count mode len (length indices) ≡ true
  pub rising : rise_within 0 len indices ≡ true

one_fits : (mode : TakeMode) (flags : List Bool) (indices : List ℕ) → IsOne flags indices → ((n : ℕ) → has_count mode n 1 ≡ true)
    → ChosenFits mode (length flags) indices
one_fits mode flags indices one counts =
    let below : one.0 < length flags = slice_get-below flags one.0 true one.2 in
    record {
      count = rw one.1 (counts (length flags));
      rising = rw (one.1, lt-ltb one.0 (length flags) below, le-leb 0 one.0 (omega arith));
    }

all_fit : (mode : TakeMode) (flags : List Bool) (indices : List ℕ) → indices ≡ true_places 0 flags
    → list_all (λ x. x) flags ≡ true → ((n : ℕ) → has_count mode n n ≡ true) → ChosenFits mode (length flags) indices
all_fit mode flags indices e h counts =
    record { count = rw (e, count_places 0 flags h) (counts (length flags)); rising = rw e (rises_places 0 0 (length flags) flags (omega arith) (omega arith)) }

some_fit : (mode : TakeMode) (flags : List Bool) (indices : List ℕ) → indices ≡ true_places 0 flags
    → list_any (λ x. x) flags ≡ true → ((n m : ℕ) → 0 < m → has_count mode n m ≡ true) → ChosenFits mode (length flags) indices
some_fit mode flags indices e h counts =
    record { count = rw e (counts (length flags) (length (true_places 0 flags)) (some_places 0 flags h)); rising = rw e (rises_places 0 0 (length flags) flags (omega arith) (omega arith)) }

pub chosen_fit : (mode : TakeMode) (flags : List Bool) (indices : List ℕ) → AreChosen mode flags indices → mode_holds mode flags ≡ true
    → ChosenFits mode (length flags) indices
chosen_fit All flags indices e h = all_fit All flags indices e h (λ n. eq-eqb n n refl)
chosen_fit TestAll flags indices e h = all_fit TestAll flags indices e h (λ n. eq-eqb n n refl)
chosen_fit AnyOne flags indices e h = one_fits AnyOne flags indices e (λ n. refl)
chosen_fit TestAny flags indices e h = one_fits TestAny flags indices e (λ n. refl)
chosen_fit Several flags indices e h = some_fit Several flags indices e h (λ n m l. lt-ltb 0 m l)
chosen_fit TestSeveral flags indices e h = some_fit TestSeveral flags indices e h (λ n m l. lt-ltb 0 m l)

-- listed starts
pub none_bad : (own : View) (earlier starts : List ℕ) → bad_request own earlier starts ≡ None
    → list_all (λ k. can_take own k) starts ≡ true
none_bad own earlier [] h = refl
none_bad own earlier (k ∷ starts) h =
    elim (test_cases (is_some (start_at own k) && (not (is_member (taken_of own) k) && not (is_member earlier k)))) [
      | inl t ↦
          let one = and_parts (is_some (start_at own k)) (not (is_member (taken_of own) k) && not (is_member earlier k)) t in
          let two = and_parts (not (is_member (taken_of own) k)) (not (is_member earlier k)) one.1 in
          let rest = none_bad own (k ∷ earlier) starts (rw t at h) in
          rw (one.0, two.0, rest)
      | inr t ↦ (let no : Some k ≡ None = rw t at h in absurd (cc))
    ]

pub bad_listed : (own : View) (earlier starts : List ℕ) (k : ℕ) → bad_request own earlier starts ≡ Some k
    → is_member starts k ≡ true
bad_listed own earlier [] k h = absurd (cc)
bad_listed own earlier (x ∷ starts) k h =
    elim (test_cases (is_some (start_at own x) && (not (is_member (taken_of own) x) && not (is_member earlier x)))) [
      | inl t ↦ or_right (x == k) (is_member starts k) (bad_listed own (x ∷ earlier) starts k (rw t at h))
      | inr t ↦ (let e : Some x ≡ Some k = rw t at h in let same : x ≡ k = cc in or_left (x == k) (is_member starts k) (eq-eqb x k same))
    ]

index_listed : (starts : List ℕ) (index : ℕ) → index < length starts → is_member starts (slice_index starts index) ≡ true
index_listed [] index h = absurd (omega arith)
index_listed (k ∷ starts) zero h = or_left (k == k) (is_member starts k) (eq-eqb k k refl)
index_listed (k ∷ starts) (suc index) h = or_right (k == slice_index starts index) (is_member starts (slice_index starts index)) (index_listed starts index (omega arith))

pub long_listed : (own : View) (starts : List ℕ) (low : ℕ) (items : List Item) (k : ℕ)
    → rise_within low (length starts) (map (λ (item : Item). item.index) items) ≡ true → first_long own starts items ≡ Some k
    → is_member starts k ≡ true
long_listed own starts low [] k rising h = absurd (cc)
long_listed own starts low (item ∷ items) k rising h =
    let one = and_parts (nat_le low item.index) (nat_lt item.index (length starts) && rise_within (item.index + 1) (length starts) (map (λ (item : Item). item.index) items)) rising in
    let two = and_parts (nat_lt item.index (length starts)) (rise_within (item.index + 1) (length starts) (map (λ (item : Item). item.index) items)) one.1 in
    elim (test_cases (is_long (start_at own (slice_index starts item.index)) item.got)) [
      | inl t ↦ (
          let e : Some (slice_index starts item.index) ≡ Some k = rw t at h in
          let same : slice_index starts item.index ≡ k = cc in
          let F : ℕ → Type 0 = λ x. is_member starts x ≡ true in
          subst F same (index_listed starts item.index (ltb-true item.index (length starts) two.0)))
      | inr t ↦ long_listed own starts (item.index + 1) items k two.1 (rw t at h)
    ]
