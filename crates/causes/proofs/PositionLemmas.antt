-- Positions of events in longer lists.
use Rattle.std.proofs.Common.{◌≡◌, ◌≤◌, ◌<◌, ◌+◌, ◌-◌, ℕ, zero, suc, List, [], ◌∷◌, ◌++◌, ◌==◌, Bool, Some, true, false, inl, inr, refl, ap, sym, ◌∙◌, arith, append-nil, drop, length, length-append, ltb, nat_lt, subst, take, slice_get, get_or, if◌then◌else◌}
use Rattle.std.proofs.lemmas.Bool.{eq-eqb, le-ltb, lt-ltb}
use Rattle.std.specs.List.Sorted.{IsNonDecreasingBy, IsPartitionPoint}
use Rattle.mpi_call.specs.Lists.{IsIn, Rises, count_below}
use Rattle.run_model.specs.declared.event.Event.{Event}
use Rattle.run_model.proofs.Views.{test_cases}
use Rattle.causes.specs.Positions.{next_number, is_event_of, positions}

pub positions-append : (test : Event → Bool) (at : ℕ) (xs ys : List Event) → positions test at (xs ++ ys) ≡ positions test at xs ++ positions test (at + length xs) ys
positions-append test at [] ys = ap (λ k. positions test k ys) (omega arith)
positions-append test at (x ∷ xs) ys =
    let from : at + 1 + length xs ≡ at + length (x ∷ xs) = omega arith in
    let rest : positions test (at + 1) (xs ++ ys) ≡ positions test (at + 1) xs ++ positions test (at + length (x ∷ xs)) ys =
    positions-append test (at + 1) xs ys ∙ ap (λ k. positions test (at + 1) xs ++ positions test k ys) from in
    elim (test_cases (test x)) [
      | inl h ↦ rw h (ap (λ l. at ∷ l) rest)
      | inr h ↦ rw h rest
    ]

-- one more event
pub positions-push : (test : Event → Bool) (xs : List Event) (x : Event) → positions test 0 (xs ++ x ∷ []) ≡ (if test x then positions test 0 xs ++ length xs ∷ [] else positions test 0 xs)
positions-push test xs x =
    let from : 0 + length xs ≡ length xs = omega arith in
    positions-append test 0 xs (x ∷ [])
    ∙ ap (λ k. positions test 0 xs ++ positions test k (x ∷ [])) from
    ∙ elim (test_cases (test x)) [
      | inl h ↦ rw h refl
      | inr h ↦ rw (h, append-nil) refl
    ]

take-drop : {A : Type 0} (k : ℕ) (xs : List A) → take k xs ++ drop k xs ≡ xs
take-drop zero xs = refl
take-drop (suc k) [] = refl
take-drop (suc k) (x ∷ xs) = ap (λ l. x ∷ l) (take-drop k xs)

-- the events up to a place are no more than all
pub count-take : (rank k : ℕ) (xs : List Event) → next_number rank (take k xs) ≤ next_number rank xs
count-take rank k xs =
    let parts = ap length (positions-append (is_event_of rank) 0 (take k xs) (drop k xs)) in
    let all = ap (λ l. length (positions (is_event_of rank) 0 l)) (take-drop k xs) in
    let sizes = length-append (positions (is_event_of rank) 0 (take k xs)) (positions (is_event_of rank) (0 + length (take k xs)) (drop k xs)) in
    omega (arith, parts, all, sizes)

take-take : {A : Type 0} (j k : ℕ) (xs : List A) → j ≤ k → take j (take k xs) ≡ take j xs
take-take zero k xs h = refl
take-take (suc j) zero xs h = absurd (omega (arith, h))
take-take (suc j) (suc k) [] h = refl
take-take (suc j) (suc k) (x ∷ xs) h = ap (λ l. x ∷ l) (take-take j k xs (omega (arith, h)))

pub count-less : (rank j k : ℕ) (xs : List Event) → j ≤ k → next_number rank (take j xs) ≤ next_number rank (take k xs)
count-less rank j k xs h =
    let same = ap (next_number rank) (take-take j k xs h) in
    let less = count-take rank j (take k xs) in
    omega (arith, same, less)

-- one more event of the rank, and of another
pub count-own : (xs : List Event) (x : Event) → next_number x.rank (xs ++ x ∷ []) ≡ next_number x.rank xs + 1
count-own xs x =
    let h : (x.rank == x.rank) ≡ true = eq-eqb x.rank x.rank refl in
    let more = positions-push (is_event_of x.rank) xs x ∙ rw h refl in
    ap length more ∙ length-append (positions (is_event_of x.rank) 0 xs) (length xs ∷ [])

pub count-other : (xs : List Event) (x : Event) (rank : ℕ) → (x.rank == rank) ≡ false → next_number rank (xs ++ x ∷ []) ≡ next_number rank xs
count-other xs x rank h = ap length (positions-push (is_event_of rank) xs x ∙ rw h refl)

-- an event that passes the test has its position in the list, and only such a one
pub record IsPlaced (test : Event → Bool) (events : List Event) (at : ℕ) : Type 0 where
  pub event : Event
  pub there : slice_get events at ≡ Some event
  pub passes : test event ≡ true

-- the same, where the first event has position `from`
record IsPlacedFrom (test : Event → Bool) (from : ℕ) (events : List Event) (at : ℕ) : Type 0 where
  pub place : ℕ
  pub is : at ≡ from + place
  pub placed : IsPlaced test events place

later_place : (test : Event → Bool) (from : ℕ) (x : Event) (xs : List Event) (at : ℕ) → IsPlacedFrom test (from + 1) xs at → IsPlacedFrom test from (x ∷ xs) at
later_place test from x xs at rest =
    let is = rest.is in
    record {
      place = suc rest.place;
      is = omega (arith, is);
      placed = record { event = rest.placed.event; there = rest.placed.there; passes = rest.placed.passes };
    }

in_positions : (test : Event → Bool) (from : ℕ) (events : List Event) (at : ℕ) → IsIn at (positions test from events) → IsPlacedFrom test from events at
in_positions test from [] at h = absurd h
in_positions test from (x ∷ xs) at h =
    elim (test_cases (test x)) [
      | inl t ↦ elim (rw t at h) [
        | inl e ↦ record { place = 0; is = omega (arith, e); placed = record { event = x; there = refl; passes = t } }
        | inr later ↦ later_place test from x xs at (in_positions test (from + 1) xs at later)
      ]
      | inr t ↦ later_place test from x xs at (in_positions test (from + 1) xs at (rw t at h))
    ]

pub placed-in : (test : Event → Bool) (events : List Event) (at : ℕ) → IsIn at (positions test 0 events) → IsPlaced test events at
placed-in test events at h =
    let found = in_positions test 0 events at h in
    let is = found.is in
    let same : found.place ≡ at = omega (arith, is) in
    let P : ℕ → Type 0 = λ k. IsPlaced test events k in
    subst P same found.placed

-- and each such event has its position there
placed_positions : (test : Event → Bool) (from : ℕ) (events : List Event) (t : ℕ) (event : Event) → slice_get events t ≡ Some event → test event ≡ true → IsIn (from + t) (positions test from events)
placed_positions test from [] t event there passes = absurd (cc)
placed_positions test from (x ∷ xs) zero event there passes =
    let same : x ≡ event = cc in
    let h : test x ≡ true = ap test same ∙ passes in
    rw h (inl (omega arith))
placed_positions test from (x ∷ xs) (suc t) event there passes =
    let is : from + 1 + t ≡ from + suc t = omega arith in
    let P : ℕ → Type 0 = λ k. IsIn k (positions test (from + 1) xs) in
    let rest = subst P is (placed_positions test (from + 1) xs t event there passes) in
    elim (test_cases (test x)) [
      | inl h ↦ rw h (inr rest)
      | inr h ↦ rw h rest
    ]

pub in-placed : (test : Event → Bool) (events : List Event) (t : ℕ) (event : Event) → slice_get events t ≡ Some event → test event ≡ true → IsIn t (positions test 0 events)
in-placed test events t event there passes =
    let is : 0 + t ≡ t = omega arith in
    let P : ℕ → Type 0 = λ k. IsIn k (positions test 0 events) in
    subst P is (placed_positions test 0 events t event there passes)

-- positions rise
rises_less : (low high : ℕ) (xs : List ℕ) → low ≤ high → Rises high xs → Rises low xs
rises_less low high [] h rises = tt
rises_less low high (x ∷ xs) h rises = (let first = rises.0 in (omega (arith, h, first), rises.1))

pub positions-rise : (test : Event → Bool) (from : ℕ) (events : List Event) → Rises from (positions test from events)
positions-rise test from [] = tt
positions-rise test from (x ∷ xs) =
    elim (test_cases (test x)) [
      | inl h ↦ rw h (omega arith, positions-rise test (from + 1) xs)
      | inr h ↦ rw h (rises_less from (from + 1) (positions test (from + 1) xs) (omega arith) (positions-rise test (from + 1) xs))
    ]

-- the last of rising numbers
pub record IsLast (xs : List ℕ) (t : ℕ) : Type 0 where
  pub last : ℕ
  pub is : slice_get xs (length xs - 1) ≡ Some last
  pub among : IsIn last xs
  pub low : t ≤ last

above_low : (low t : ℕ) (xs : List ℕ) → Rises low xs → IsIn t xs → low ≤ t
above_low low t [] rises h = absurd h
above_low low t (x ∷ xs) rises h = elim h [
  | inl e ↦ (let first = rises.0 in omega (arith, e, first))
  | inr later ↦ (let first = rises.0 in let rest = above_low (x + 1) t xs rises.1 later in omega (arith, first, rest))
]

pub last_rising : (low : ℕ) (xs : List ℕ) (t : ℕ) → Rises low xs → IsIn t xs → IsLast xs t
last_rising low [] t rises h = absurd h
last_rising low (x ∷ []) t rises h = elim h [
  | inl e ↦ record { last = x; is = refl; among = inl refl; low = omega (arith, e) }
  | inr never ↦ absurd never
]
last_rising low (x ∷ y ∷ ys) t rises h =
    let at : length (x ∷ y ∷ ys) - 1 ≡ suc (length (y ∷ ys) - 1) = omega arith in
    let of_rest : (s : ℕ) → t ≤ s → IsIn s (y ∷ ys) → IsLast (x ∷ y ∷ ys) t = λ s less there.
    let rest = last_rising (x + 1) (y ∷ ys) s rises.1 there in
    let high = rest.low in
    let P : ℕ → Type 0 = λ k. slice_get (x ∷ y ∷ ys) k ≡ Some rest.last in
    record { last = rest.last; is = subst P (sym at) rest.is; among = inr rest.among; low = omega (arith, less, high) } in
    elim h [
      | inl e ↦ (let next = rises.1.0 in of_rest y (omega (arith, e, next)) (inl refl))
      | inr later ↦ of_rest t (omega arith) later
    ]

-- rising positions as the search by halves wants them
rise_least : (low : ℕ) (xs : List ℕ) (k d : ℕ) → Rises low xs → k < length xs → low ≤ get_or xs k d
rise_least low [] k d rises h = absurd (omega (arith, h))
rise_least low (x ∷ xs) zero d rises h = rises.0
rise_least low (x ∷ xs) (suc k) d rises h =
    (let first = rises.0 in let rest = rise_least (x + 1) xs k d rises.1 (omega (arith, h)) in omega (arith, first, rest))

sorted_at : (x : ℕ) (xs : List ℕ) → Rises (x + 1) xs → IsNonDecreasingBy (λ (n : ℕ). n) xs → (i j d : ℕ) → i ≤ j → j < length (x ∷ xs) → get_or (x ∷ xs) i d ≤ get_or (x ∷ xs) j d
sorted_at x xs rises rest zero zero d h less = omega arith
sorted_at x xs rises rest zero (suc j) d h less = (let low = rise_least (x + 1) xs j d rises (omega (arith, less)) in omega (arith, low))
sorted_at x xs rises rest (suc i) zero d h less = absurd (omega (arith, h))
sorted_at x xs rises rest (suc i) (suc j) d h less = rest i j d (omega (arith, h)) (omega (arith, less))

sorted : (low : ℕ) (xs : List ℕ) → Rises low xs → IsNonDecreasingBy (λ (n : ℕ). n) xs
sorted low [] rises = λ i j d h less. absurd (omega (arith, less))
sorted low (x ∷ xs) rises = λ i j d h less. sorted_at x xs rises.1 (sorted (x + 1) xs rises.1) i j d h less

pub positions-sorted : (test : Event → Bool) (events : List Event) → IsNonDecreasingBy (λ (n : ℕ). n) (positions test 0 events)
positions-sorted test events = sorted 0 (positions test 0 events) (positions-rise test 0 events)

-- the positions below one are those of the events before it
none_below : (low at : ℕ) (xs : List ℕ) → at ≤ low → Rises low xs → count_below at xs ≡ 0
none_below low at [] h rises = refl
none_below low at (x ∷ xs) h rises =
    let first = rises.0 in
    let past : nat_lt x at ≡ false = le-ltb x at (omega (arith, h, first)) in
    rw past (none_below (x + 1) at xs (omega (arith, h, first)) rises.1)

below_from : (test : Event → Bool) (from k : ℕ) (events : List Event) → count_below (from + k) (positions test from events) ≡ length (positions test from (take k events))
below_from test from zero events = none_below from (from + 0) (positions test from events) (omega arith) (positions-rise test from events)
below_from test from (suc k) [] = refl
below_from test from (suc k) (x ∷ xs) =
    let is : from + 1 + k ≡ from + suc k = omega arith in
    let rest : count_below (from + suc k) (positions test (from + 1) xs) ≡ length (positions test (from + 1) (take k xs)) =
    ap (λ n. count_below n (positions test (from + 1) xs)) (sym is) ∙ below_from test (from + 1) k xs in
    let yes : nat_lt from (from + suc k) ≡ true = lt-ltb from (from + suc k) (omega arith) in
    elim (test_cases (test x)) [
      | inl h ↦ rw (h, yes) (ap suc rest)
      | inr h ↦ rw h rest
    ]

pub count_below-positions : (test : Event → Bool) (k : ℕ) (events : List Event) → count_below k (positions test 0 events) ≡ length (positions test 0 (take k events))
count_below-positions test k events =
    let is : 0 + k ≡ k = omega arith in
    ap (λ n. count_below n (positions test 0 events)) (sym is) ∙ below_from test 0 k events

-- where the positions below stand before the others, the place between counts them
pub below_point : (xs : List ℕ) (i at : ℕ) → i ≤ length xs → IsPartitionPoint (λ y. ltb y at ≡ true) (λ y. ltb y at ≡ false) xs i → i ≡ count_below at xs
below_point [] i at short point = omega (arith, short)
below_point (x ∷ xs) zero at short point =
    let first = point.1 0 x (omega arith) (omega arith) in
    rw first (below_point xs zero at (omega arith) (
      λ k d low high. absurd (omega (arith, high)),
      λ k d low high. point.1 (suc k) d (omega arith) (omega (arith, high)),
    ))
below_point (x ∷ xs) (suc i) at short point =
    let first = point.0 0 x (omega arith) (omega arith) in
    rw first (ap suc (below_point xs i at (omega (arith, short)) (
      λ k d low high. point.0 (suc k) d (omega arith) (omega (arith, high)),
      λ k d low high. point.1 (suc k) d (omega (arith, low)) (omega (arith, high)),
    )))

-- no more positions than events
pub few-positions : (test : Event → Bool) (at : ℕ) (events : List Event) → length (positions test at events) ≤ length events
few-positions test at [] = omega arith
few-positions test at (x ∷ xs) =
    (let rest = few-positions test (at + 1) xs in
    elim (test_cases (test x)) [
      | inl h ↦ rw h (omega (arith, rest))
      | inr h ↦ rw h (omega (arith, rest))
    ])
