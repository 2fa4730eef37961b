-- Where each of some ranks is followed by another of them, there is a cycle.
use Rattle.std.proofs.Common.{◌≡◌, ◌≤◌, ◌<◌, ◌∙◌, ◌+◌, ◌++◌, ◌∷◌, ◌==◌, ◌||◌, [], ℕ, zero, suc, List, Option, Some, true, false, inl, inr, ap, arith, length, length-append, nat_lt, refl, subst, sym}
use Rattle.std.proofs.lemmas.Bool.{and_parts, cases_order, eq-eqb, eqb-true, lt-ltb, ltb-true, or_cases, or_left, or_parts, or_right}
use Rattle.mpi_call.specs.Members.{is_distinct, is_member}
use Rattle.run_model.proofs.FewRanks.{few_ranks}
use Rattle.run_model.specs.Lists.{are_below}
use Rattle.run_model.proofs.MemberLists.{below_member}
use Rattle.run_model.proofs.Views.{test_cases}
use Rattle.wait_graph.specs.Graph.{at_next, cycle_from, in_front, way_back}

-- a rank leads to these, each followed by the next one, and then to the last
abbrev pub Leads : (ℕ → Option ℕ) → ℕ → List ℕ → ℕ → Type 0
Leads next rank [] last = next rank ≡ Some last
Leads next rank (other ∷ ranks) last = (next rank ≡ Some other) × Leads next other ranks last

leads_join : (next : ℕ → Option ℕ) (a : ℕ) (xs : List ℕ) (b : ℕ) (ys : List ℕ) (c : ℕ) → Leads next a xs b → Leads next b ys c → Leads next a (xs ++ b ∷ ys) c
leads_join next a [] b ys c first second = (first, second)
leads_join next a (x ∷ xs) b ys c first second = (first.0, leads_join next x xs b ys c first.1 second)

leads_front : (next : ℕ → Option ℕ) (a : ℕ) (xs : List ℕ) (b : ℕ) (ys : List ℕ) (c : ℕ) → Leads next a (xs ++ b ∷ ys) c → Leads next a xs b
leads_front next a [] b ys c all = all.0
leads_front next a (x ∷ xs) b ys c all = (all.0, leads_front next x xs b ys c all.1)

leads_back : (next : ℕ → Option ℕ) (a : ℕ) (xs : List ℕ) (b : ℕ) (ys : List ℕ) (c : ℕ) → Leads next a (xs ++ b ∷ ys) c → Leads next b ys c
leads_back next a [] b ys c all = all.1
leads_back next a (x ∷ xs) b ys c all = leads_back next x xs b ys c all.1

-- a list with one of its elements in the middle
record IsSplit (x : ℕ) (xs : List ℕ) : Type 0 where
  front : List ℕ
  back : List ℕ
  whole : xs ≡ front ++ x ∷ back

split_member : (x : ℕ) (xs : List ℕ) → is_member xs x ≡ true → IsSplit x xs
split_member x [] h = absurd (cc)
split_member x (y ∷ ys) h = elim (or_cases (y == x) (is_member ys x) h) [
  | inl t ↦ (let same : y ≡ x = eqb-true y x t in record { front = []; back = ys; whole = ap (λ z. z ∷ ys) same })
  | inr t ↦ (let rest = split_member x ys t in record { front = y ∷ rest.front; back = rest.back; whole = ap (λ l. y ∷ l) rest.whole })
]

-- all elements are above a number
abbrev pub AllAbove : ℕ → List ℕ → Type 0
AllAbove low [] = Unit {0}
AllAbove low (x ∷ xs) = (low < x) × AllAbove low xs

-- the way back over higher ranks is found
way_found : (next : ℕ → Option ℕ) (home at : ℕ) (ranks : List ℕ) (left : ℕ) → Leads next at ranks home → AllAbove home ranks → length ranks < left
    → at_next (next at) (way_back next left home) ≡ Some ranks
way_found next home at [] zero leads above long = absurd (omega (arith, long))
way_found next home at (x ∷ ranks) zero leads above long = absurd (omega (arith, long))
way_found next home at [] (suc left) leads above long = rw (leads, eq-eqb home home refl) refl
way_found next home at (x ∷ ranks) (suc left) leads above long =
    let low = above.0 in
    let apart : (x == home) ≡ false = elim (test_cases (x == home)) [
      | inl t ↦ (let same = eqb-true x home t in absurd (omega (arith, low, same)))
      | inr t ↦ t
    ] in
    let high : nat_lt x home ≡ false = elim (test_cases (nat_lt x home)) [
      | inl t ↦ (let less = ltb-true x home t in absurd (omega (arith, low, less)))
      | inr t ↦ t
    ] in
    let rest = way_found next home x ranks left leads.1 above.1 (omega (arith, long)) in
    rw (leads.0, apart, high) (ap (in_front x) rest)

-- the least of some ranks
record IsLeastOf (xs : List ℕ) : Type 0 where
  least : ℕ
  there : is_member xs least ≡ true
  each : (x : ℕ) → is_member xs x ≡ true → least ≤ x

least_of : (x : ℕ) (xs : List ℕ) → IsLeastOf (x ∷ xs)
least_of x [] =
    record {
      least = x;
      there = rw (eq-eqb x x refl) refl;
      each = λ y h. elim (or_cases (x == y) false h) [
        | inl t ↦ (let same = eqb-true x y t in omega (arith, same))
        | inr t ↦ absurd (cc)
      ];
    }
least_of x (y ∷ ys) =
    let rest = least_of y ys in
    elim (test_cases (nat_lt x rest.least)) [
      | inl t ↦ (
          let less = ltb-true x rest.least t in
          record {
            least = x;
            there = rw (eq-eqb x x refl) refl;
            each = λ z h. elim (or_cases (x == z) (is_member (y ∷ ys) z) h) [
              | inl u ↦ (let same = eqb-true x z u in omega (arith, same))
              | inr u ↦ (let low = rest.each z u in omega (arith, low, less))
            ];
          })
      | inr t ↦ (
          record {
            least = rest.least;
            there = or_right (x == rest.least) (is_member (y ∷ ys) rest.least) rest.there;
            each = λ z h. elim (or_cases (x == z) (is_member (y ∷ ys) z) h) [
              | inl u ↦ (
                  let same = eqb-true x z u in
                  elim (cases_order rest.least x) [
                    | inl e ↦ omega (arith, same, e)
                    | inr apart ↦ elim apart [
                      | inl low ↦ omega (arith, same, low)
                      | inr high ↦ absurd (let no : true ≡ false = sym (lt-ltb x rest.least high) ∙ t in cc)
                    ]
                  ])
              | inr u ↦ rest.each z u
            ];
          })
    ]

member-append : (xs ys : List ℕ) (x : ℕ) → is_member (xs ++ ys) x ≡ (is_member xs x || is_member ys x)
member-append [] ys x = refl
member-append (y ∷ xs) ys x = elim (test_cases (y == x)) [
  | inl t ↦ rw t refl
  | inr t ↦ rw t (member-append xs ys x)
]

-- distinct ranks with one more at the end
distinct_push : (xs : List ℕ) (a : ℕ) → is_distinct xs ≡ true → is_member xs a ≡ false → is_distinct (xs ++ a ∷ []) ≡ true
distinct_push [] a distinct new = refl
distinct_push (x ∷ xs) a distinct new =
    let parts = or_parts (x == a) (is_member xs a) new in
    elim (test_cases (is_member xs x)) [
      | inl t ↦ absurd (let no : false ≡ true = rw t at distinct in cc)
      | inr t ↦ (
          let apart : (a == x) ≡ false = elim (test_cases (a == x)) [
            | inl u ↦ (let e : true ≡ false = sym (eq-eqb x a (sym (eqb-true a x u))) ∙ parts.0 in absurd (cc))
            | inr u ↦ u
          ] in
          let none : is_member (xs ++ a ∷ []) x ≡ false = member-append xs (a ∷ []) x ∙ rw (t, apart) refl in
          rw none (distinct_push xs a (rw t at distinct) parts.1))
    ]

-- the end of distinct ranks is distinct, and its first rank stands neither before nor behind
distinct_back : (xs : List ℕ) (a : ℕ) (ys : List ℕ) → is_distinct (xs ++ a ∷ ys) ≡ true → is_distinct (a ∷ ys) ≡ true
distinct_back [] a ys h = h
distinct_back (x ∷ xs) a ys h = elim (test_cases (is_member (xs ++ a ∷ ys) x)) [
  | inl t ↦ absurd (let no : false ≡ true = rw t at h in cc)
  | inr t ↦ distinct_back xs a ys (rw t at h)
]

distinct_behind : (a : ℕ) (ys : List ℕ) → is_distinct (a ∷ ys) ≡ true → is_member ys a ≡ false
distinct_behind a ys h = elim (test_cases (is_member ys a)) [
  | inl t ↦ absurd (let no : false ≡ true = rw t at h in cc)
  | inr t ↦ t
]

distinct_before : (xs : List ℕ) (a : ℕ) (ys : List ℕ) → is_distinct (xs ++ a ∷ ys) ≡ true → is_member xs a ≡ false
distinct_before [] a ys h = refl
distinct_before (x ∷ xs) a ys h = elim (test_cases (is_member (xs ++ a ∷ ys) x)) [
  | inl t ↦ absurd (let no : false ≡ true = rw t at h in cc)
  | inr t ↦ (
      let none = or_parts (is_member xs x) (is_member (a ∷ ys) x) (sym (member-append xs (a ∷ ys) x) ∙ t) in
      let apart = or_parts (a == x) (is_member ys x) none.1 in
      let flip : (x == a) ≡ false = elim (test_cases (x == a)) [
        | inl u ↦ (let e : true ≡ false = sym (eq-eqb a x (sym (eqb-true x a u))) ∙ apart.0 in absurd (cc))
        | inr u ↦ u
      ] in
      rw (flip, distinct_before xs a ys (rw t at h)) refl)
]

all_above : (low : ℕ) (xs : List ℕ) → ((x : ℕ) → is_member xs x ≡ true → low ≤ x) → is_member xs low ≡ false → AllAbove low xs
all_above low [] each none = tt
all_above low (x ∷ xs) each none =
    let parts = or_parts (x == low) (is_member xs low) none in
    let least = each x (or_left (x == x) (is_member xs x) (eq-eqb x x refl)) in (
      elim (cases_order low x) [
        | inl same ↦ absurd (let e : true ≡ false = sym (eq-eqb x low (sym same)) ∙ parts.0 in cc)
        | inr apart ↦ elim apart [
          | inl less ↦ less
          | inr more ↦ absurd (omega (arith, least, more))
        ]
      ],
      all_above low xs (λ y there. each y (or_right (x == y) (is_member xs y) there)) parts.1,
    )

below_push : (n : ℕ) (xs : List ℕ) (a : ℕ) → are_below n xs ≡ true → a < n → are_below n (xs ++ a ∷ []) ≡ true
below_push n [] a below low = rw (lt-ltb a n low) refl
below_push n (x ∷ xs) a below low =
    let parts = and_parts (nat_lt x n) (are_below n xs) below in
    rw parts.0 (below_push n xs a parts.1 low)

below_back : (n : ℕ) (xs ys : List ℕ) → are_below n (xs ++ ys) ≡ true → are_below n ys ≡ true
below_back n [] ys h = h
below_back n (x ∷ xs) ys h = below_back n xs ys (and_parts (nat_lt x n) (are_below n (xs ++ ys)) h).1

-- what stands in a turned list stands in the list
rotated : (at m : ℕ) (front back whole : List ℕ) (x : ℕ) → whole ≡ front ++ m ∷ back → is_member (back ++ at ∷ front) x ≡ true → is_member (at ∷ whole) x ≡ true
rotated at m front back whole x is there =
    let parts = or_cases (is_member back x) (is_member (at ∷ front) x) (sym (member-append back (at ∷ front) x) ∙ there) in
    let inside : (is_member front x || is_member (m ∷ back) x) ≡ is_member whole x = sym (ap (λ l. is_member l x) is ∙ member-append front (m ∷ back) x) in
    elim parts [
      | inl t ↦ or_right (at == x) (is_member whole x) (sym inside ∙ or_right (is_member front x) (is_member (m ∷ back) x) (or_right (m == x) (is_member back x) t))
      | inr t ↦ elim (or_cases (at == x) (is_member front x) t) [
        | inl u ↦ or_left (at == x) (is_member whole x) u
        | inr u ↦ or_right (at == x) (is_member whole x) (sym inside ∙ or_left (is_member front x) (is_member (m ∷ back) x) u)
      ]
    ]

-- a cycle, from its least rank
pub record IsCycle (next : ℕ → Option ℕ) (n : ℕ) : Type 0 where
  pub home : ℕ
  pub ranks : List ℕ
  pub below : home < n
  pub found : cycle_from next n home ≡ Some (home ∷ ranks)

found_from : (next : ℕ → Option ℕ) (n home : ℕ) (ranks : List ℕ) → home < n → Leads next home ranks home → AllAbove home ranks → length ranks < n → IsCycle next n
found_from next n home ranks below leads above short =
    record {
      home = home;
      ranks = ranks;
      below = below;
      found = ap (in_front home) (way_found next home home ranks n leads above short);
    }

module _ (next : ℕ → Option ℕ) (n : ℕ) where
  -- ranks that lead back to the first are a cycle
  closed : (at : ℕ) (back : List ℕ) → Leads next at back at → is_distinct (at ∷ back) ≡ true → are_below n (at ∷ back) ≡ true → IsCycle next n
  closed at back leads distinct low =
      let few = few_ranks n (at ∷ back) low distinct in
      let least = least_of at back in
      let least_low : least.least < n = ltb-true least.least n (below_member n (at ∷ back) least.least low least.there) in
      elim (or_cases (at == least.least) (is_member back least.least) least.there) [
        | inl t ↦ (
            let same = eqb-true at least.least t in
            let F : ℕ → Type 0 = λ m. IsCycle next n in
            found_from next n at back (omega (arith, same, least_low)) leads
            (all_above at back (λ x there. (let l = least.each x (or_right (at == x) (is_member back x) there) in omega (arith, l, same))) (distinct_behind at back distinct))
            (omega (arith, few)))
        | inr t ↦ (
            let m : ℕ = least.least in
            let cut = split_member m back t in
            let leads_cut : Leads next at (cut.front ++ m ∷ cut.back) at = (let F : List ℕ → Type 0 = λ l. Leads next at l at in subst F cut.whole leads) in
            let distinct_cut : is_distinct ((at ∷ cut.front) ++ m ∷ cut.back) ≡ true = (let F : List ℕ → Type 0 = λ l. is_distinct (at ∷ l) ≡ true in subst F cut.whole distinct) in
            let round = leads_join next m cut.back at cut.front m (leads_back next at cut.front m cut.back at leads_cut) (leads_front next at cut.front m cut.back at leads_cut) in
            let before = or_parts (at == m) (is_member cut.front m) (distinct_before (at ∷ cut.front) m cut.back distinct_cut) in
            let behind = distinct_behind m cut.back (distinct_back (at ∷ cut.front) m cut.back distinct_cut) in
            let none : is_member (cut.back ++ at ∷ cut.front) m ≡ false = member-append cut.back (at ∷ cut.front) m ∙ rw (behind, before.0, before.1) refl in
            let lengths = length-append cut.front (m ∷ cut.back) in
            let lengths' = length-append cut.back (at ∷ cut.front) in
            let size = ap length cut.whole in
            found_from next n m (cut.back ++ at ∷ cut.front) least_low round
            (all_above m (cut.back ++ at ∷ cut.front) (λ x there. least.each x (rotated at m cut.front cut.back back x cut.whole there)) none)
            (omega (arith, few, lengths, lengths', size)))
      ]

  module _ (B : ℕ → Type 0) (low : (rank : ℕ) → B rank → rank < n) (goes : (rank : ℕ) → B rank → (other : ℕ) × (next rank ≡ Some other) × B other) where
    search_on : (left x : ℕ) (xs : List ℕ) (at : ℕ) → length xs + left ≡ n → is_distinct (x ∷ xs) ≡ true → are_below n (x ∷ xs) ≡ true → Leads next x xs at → B at → IsCycle next n
    search_on zero x xs at size distinct below leads there = absurd (let few = few_ranks n (x ∷ xs) below distinct in omega (arith, few, size))
    search_on (suc left) x xs at size distinct below leads there = elim (test_cases (is_member (x ∷ xs) at)) [
      | inl t ↦ elim (or_cases (x == at) (is_member xs at) t) [
        | inl u ↦ (
            let same = eqb-true x at u in
            let F : ℕ → Type 0 = λ a. Leads next x xs a in
            closed x xs (subst F (sym same) leads) distinct below)
        | inr u ↦ (
            let cut = split_member at xs u in
            let leads_cut : Leads next x (cut.front ++ at ∷ cut.back) at = (let F : List ℕ → Type 0 = λ l. Leads next x l at in subst F cut.whole leads) in
            let distinct_cut : is_distinct ((x ∷ cut.front) ++ at ∷ cut.back) ≡ true = (let F : List ℕ → Type 0 = λ l. is_distinct (x ∷ l) ≡ true in subst F cut.whole distinct) in
            let below_cut : are_below n ((x ∷ cut.front) ++ at ∷ cut.back) ≡ true = (let F : List ℕ → Type 0 = λ l. are_below n (x ∷ l) ≡ true in subst F cut.whole below) in
            closed at cut.back (leads_back next x cut.front at cut.back at leads_cut) (distinct_back (x ∷ cut.front) at cut.back distinct_cut) (below_back n (x ∷ cut.front) (at ∷ cut.back) below_cut))
      ]
      | inr new ↦ (
          let on = goes at there in
          let size' = length-append xs (at ∷ []) in
          search_on left x (xs ++ at ∷ []) on.0 (omega (arith, size, size'))
          (distinct_push (x ∷ xs) at distinct new) (below_push n (x ∷ xs) at below (low at there)) (leads_join next x xs at [] on.0 leads on.1) on.2)
    ]

    pub has_cycle : (rank : ℕ) → B rank → IsCycle next n
    has_cycle rank there =
        let on = goes rank there in
        let below : are_below n (rank ∷ []) ≡ true = below_push n [] rank refl (low rank there) in
        search_on n rank [] on.0 (omega arith) refl below on.1 on.2
