-- The clock of one more event.
use Rattle.std.proofs.Common.{◌≡◌, ◌≢◌, ◌≤◌, ◌<◌, ◌+◌, ◌-◌, ◌⊎◌, ◌↔◌, ◌==◌, ℕ, zero, suc, List, [], ◌∷◌, ◌++◌, Option, Some, None, true, inl, inr, refl, ap, sym, ◌∙◌, arith, get_or, get_or-set_other, get_or-set_same, length, length-append, length-set, length-take-le, replicate, set, slice_get, subst, take}
use Rattle.std.specs.Option.{option_to_list}
use Rattle.std.proofs.lemmas.Bool.{eqb-true, eq-eqb}
use Rattle.std.proofs.lemmas.List.{length-replicate, take-append-le, take_all}
use Rattle.mpi_call.specs.Lists.{IsIn}
use Rattle.run_model.specs.declared.event.Event.{Event}
use Rattle.run_model.proofs.StartLemmas.{slice_get-below, slice_get-last, slice_get-push}
use Rattle.run_model.proofs.Views.{test_cases}
use Rattle.causes.specs.Before.{IsBefore, IsDirectlyBefore, IsEventOfRank, PrecedesDirectly, IsUpTo}
use Rattle.causes.specs.Before.IsBefore.{step, path}
use Rattle.causes.specs.Clocks.{AreClocks, IsClock, number_of_event}
use Rattle.causes.specs.inside.Joins.{IsJoinOfAll}
use Rattle.causes.specs.Positions.{next_number, is_event_of, positions}
use Rattle.causes.specs.Steps.{rests_on}
use Rattle.causes.proofs.PositionLemmas.{count-less, count-other, count-own, count-take, in-placed, last_rising, placed-in, positions-rise}
use Rattle.causes.proofs.Paths.{before-back, before-kept, before-less, get_front}

below_some : {A : Type 0} (xs : List A) (k : ℕ) → k < length xs → (x : A) × (slice_get xs k ≡ Some x)
below_some [] k h = absurd (omega (arith, h))
below_some (x ∷ xs) zero h = (x, refl)
below_some (x ∷ xs) (suc k) h = below_some xs k (omega (arith, h))

get_or-zeros : (n k : ℕ) → get_or {A = ℕ} (replicate {A = ℕ} n zero) k zero ≡ zero
get_or-zeros zero k = refl
get_or-zeros (suc n) zero = refl
get_or-zeros (suc n) (suc k) = get_or-zeros n k

append_in : (xs ys : List ℕ) (t : ℕ) → IsIn t (xs ++ ys) → IsIn t xs ⊎ IsIn t ys
append_in [] ys t h = inr h
append_in (x ∷ xs) ys t h = elim h [
  | inl e ↦ inl (inl e)
  | inr later ↦ elim (append_in xs ys t later) [ inl l ↦ inl (inr l) | inr r ↦ inr r ]
]

pub in_first : (xs ys : List ℕ) (t : ℕ) → IsIn t xs → IsIn t (xs ++ ys)
in_first [] ys t h = absurd h
in_first (x ∷ xs) ys t h = elim h [ inl e ↦ inl e | inr later ↦ inr (in_first xs ys t later) ]

pub in_second : (xs ys : List ℕ) (t : ℕ) → IsIn t ys → IsIn t (xs ++ ys)
in_second [] ys t h = h
in_second (x ∷ xs) ys t h = inr (in_second xs ys t h)

-- what a clock that was joined from others and then set says
pub record IsMade (n : ℕ) (before : List Event) (event : Event) (clocks : List (List ℕ)) (last : Option ℕ) (joined : List ℕ) : Type 0 where
  pub clocks_are : AreClocks n before clocks
  pub below : event.rank < n
  pub last_is : last ≡ slice_get (positions (is_event_of event.rank) 0 before) (length (positions (is_event_of event.rank) 0 before) - 1)
  pub join : IsJoinOfAll (replicate n 0) clocks (option_to_list last ++ rests_on n before event.rank event.call event.reply) joined

-- the last event of the rank
pub record IsPrevious (before : List Event) (rank t : ℕ) (last : Option ℕ) : Type 0 where
  pub at : ℕ
  pub is : last ≡ Some at
  pub own : IsEventOfRank before rank at
  pub low : t ≤ at

own_of : (before : List Event) (rank t : ℕ) → IsIn t (positions (is_event_of rank) 0 before) → IsEventOfRank before rank t
own_of before rank t among =
    let placed = placed-in (is_event_of rank) before t among in
    record { earlier = placed.event; at = placed.there; own = eqb-true placed.event.rank rank placed.passes }

pub previous : (before : List Event) (rank t : ℕ) (last : Option ℕ) → last ≡ slice_get (positions (is_event_of rank) 0 before) (length (positions (is_event_of rank) 0 before) - 1) → IsEventOfRank before rank t → IsPrevious before rank t last
previous before rank t last is own =
    let passes : is_event_of rank own.earlier ≡ true = eq-eqb own.earlier.rank rank own.own in
    let among = in-placed (is_event_of rank) before t own.earlier own.at passes in
    let found = last_rising 0 (positions (is_event_of rank) 0 before) t (positions-rise (is_event_of rank) 0 before) among in
    record { at = found.last; is = is ∙ found.is; own = own_of before rank found.last found.among; low = found.low }

-- the last is of the rank
get_in : (xs : List ℕ) (k x : ℕ) → slice_get xs k ≡ Some x → IsIn x xs
get_in [] k x h = absurd (cc)
get_in (y ∷ xs) zero x h = (let e : y ≡ x = cc in inl e)
get_in (y ∷ xs) (suc k) x h = inr (get_in xs k x h)

listed_own : (before : List Event) (rank : ℕ) (last : Option ℕ) (s : ℕ) → last ≡ slice_get (positions (is_event_of rank) 0 before) (length (positions (is_event_of rank) 0 before) - 1) → IsIn s (option_to_list last) → IsEventOfRank before rank s
listed_own before rank None s is h = absurd h
listed_own before rank (Some p) s is h = elim h [
  | inl e ↦ (
      let P : ℕ → Type 0 = λ k. IsEventOfRank before rank k in
      subst P e (own_of before rank p (get_in (positions (is_event_of rank) 0 before) (length (positions (is_event_of rank) 0 before) - 1) p (sym is))))
  | inr never ↦ absurd never
]

-- a position whose clock was joined is directly before
pub source_direct : (n : ℕ) (before : List Event) (event : Event) (last : Option ℕ) (s : ℕ) → last ≡ slice_get (positions (is_event_of event.rank) 0 before) (length (positions (is_event_of event.rank) 0 before) - 1) → s < length before → IsIn s (option_to_list last ++ rests_on n before event.rank event.call event.reply) → IsDirectlyBefore n before event s
source_direct n before event last s is low among =
    record {
      less = low;
      why = elim (append_in (option_to_list last) (rests_on n before event.rank event.call event.reply) s among) [
        | inl l ↦ inl (listed_own before event.rank last s is l)
        | inr r ↦ inr r
      ];
    }

-- the step to the new event
step_to : (n : ℕ) (before : List Event) (event : Event) (t : ℕ) → IsDirectlyBefore n before event t → PrecedesDirectly n (before ++ event ∷ []) t (length before)
step_to n before event t direct =
    let same : before ≡ take (length before) (before ++ event ∷ []) = sym (take-append-le (length before) before (event ∷ []) (omega arith) ∙ take_all (length before) before (omega arith)) in
    let P : List Event → Type 0 = λ l. IsDirectlyBefore n l event t in
    record { event = event; at = slice_get-last before event; direct = subst P same direct }

-- and back
step_from : (n : ℕ) (before : List Event) (event : Event) (t : ℕ) → PrecedesDirectly n (before ++ event ∷ []) t (length before) → IsDirectlyBefore n before event t
step_from n before event t is =
    let same : take (length before) (before ++ event ∷ []) ≡ before = take-append-le (length before) before (event ∷ []) (omega arith) ∙ take_all (length before) before (omega arith) in
    let P : List Event → Type 0 = λ l. IsDirectlyBefore n l is.event t in
    let direct = subst P same is.direct in
    let some : Some is.event ≡ Some event = sym is.at ∙ slice_get-last before event in
    let one : is.event ≡ event = cc in
    let Q : Event → Type 0 = λ e. IsDirectlyBefore n before e t in
    subst Q one direct

-- of an earlier event of another rank: its number is below a joined clock
number_below : (n : ℕ) (before : List Event) (clocks : List (List ℕ)) (t s : ℕ) (e : Event) (clock : List ℕ) → AreClocks n before clocks → slice_get before t ≡ Some e → slice_get clocks s ≡ Some clock → number_of_event before e.rank t < get_or clock e.rank 0 → IsUpTo n before t s
number_below n before clocks t s e clock are there at above =
    let is = are.each s clock at in
    elim (less_cases s t) [
      | inl after ↦ (
          let few = is.few e.rank in
          let more = count-less e.rank (suc s) t before after in
          absurd (omega (arith, few, more, above)))
      | inr low ↦ (is.tells t e low there).0 above
    ]
  where
    less_cases : (s t : ℕ) → (suc s ≤ t) ⊎ (t ≤ s)
    less_cases s zero = inr (omega arith)
    less_cases zero (suc t) = inl (omega arith)
    less_cases (suc s) (suc t) = elim (less_cases s t) [ inl h ↦ inl (omega (arith, h)) | inr h ↦ inr (omega (arith, h)) ]

-- from the joined clocks to a path
path_of : (n : ℕ) (before : List Event) (event : Event) (t s : ℕ) → IsDirectlyBefore n before event s → IsUpTo n before t s → IsBefore n (before ++ event ∷ []) t (length before)
path_of n before event t s direct up = elim up [
  | inl e ↦ (
      let P : ℕ → Type 0 = λ k. IsBefore n (before ++ event ∷ []) k (length before) in
      subst P (sym e) (step s (length before) (step_to n before event s direct)))
  | inr first ↦ path t s (length before) (before-kept n before (event ∷ []) t s first) (step_to n before event s direct)
]

-- from a path to the joined clocks: it comes by a position whose clock was joined
pub record ComesBy (n : ℕ) (before : List Event) (event : Event) (last : Option ℕ) (t : ℕ) : Type 0 where
  pub at : ℕ
  pub low : at < length before
  pub among : IsIn at (option_to_list last ++ rests_on n before event.rank event.call event.reply)
  pub up : IsUpTo n before t at

pub listed_there : (last : Option ℕ) (p : ℕ) → last ≡ Some p → IsIn p (option_to_list last)
listed_there None p h = absurd (cc)
listed_there (Some x) p h = (let e : x ≡ p = cc in inl e)

pub own_step : (n : ℕ) (before : List Event) (rank s p : ℕ) → IsEventOfRank before rank s → IsEventOfRank before rank p → s < p → PrecedesDirectly n before s p
own_step n before rank s p first second less =
    let low = slice_get-below before p second.earlier second.at in
    record {
      event = second.earlier;
      at = second.at;
      direct = record {
        less = length_of low;
        why = inl (record { earlier = first.earlier; at = get_taken before p s first.earlier less first.at; own = first.own ∙ sym second.own });
      };
    }
  where
    get_taken : {A : Type 0} (xs : List A) (p s : ℕ) (x : A) → s < p → slice_get xs s ≡ Some x → slice_get (take p xs) s ≡ Some x
    get_taken [] p s x less h = absurd (cc)
    get_taken (y ∷ xs) zero s x less h = absurd (omega (arith, less))
    get_taken (y ∷ xs) (suc p) zero x less h = h
    get_taken (y ∷ xs) (suc p) (suc s) x less h = get_taken xs p s x (omega (arith, less)) h

    length_of : p < length before → s < length (take p before)
    length_of low = (let long = length-take-le p before (omega (arith, low)) in omega (arith, long, less))

by_own : (n : ℕ) (before : List Event) (event : Event) (last : Option ℕ) (t s : ℕ) → last ≡ slice_get (positions (is_event_of event.rank) 0 before) (length (positions (is_event_of event.rank) 0 before) - 1) → IsEventOfRank before event.rank s → IsUpTo n before t s → ComesBy n before event last t
by_own n before event last t s is own up =
    let previous_one = previous before event.rank s last is own in
    let low = previous_one.low in
    let rests : List ℕ = rests_on n before event.rank event.call event.reply in
    record {
      at = previous_one.at;
      low = slice_get-below before previous_one.at previous_one.own.earlier previous_one.own.at;
      among = in_first (option_to_list last) rests previous_one.at (listed_there last previous_one.at previous_one.is);
      up = elim (le_cases s previous_one.at low) [
        | inl e ↦ (let P : ℕ → Type 0 = λ k. IsUpTo n before t k in subst P e up)
        | inr less ↦ inr (further previous_one.at (own_step n before event.rank s previous_one.at own previous_one.own less))
      ];
    }
  where
    le_cases : (a b : ℕ) → a ≤ b → (a ≡ b) ⊎ (a < b)
    le_cases zero zero h = inl refl
    le_cases zero (suc b) h = inr (omega arith)
    le_cases (suc a) zero h = absurd (omega (arith, h))
    le_cases (suc a) (suc b) h = elim (le_cases a b (omega (arith, h))) [ inl e ↦ inl (ap suc e) | inr l ↦ inr (omega (arith, l)) ]

    further : (p : ℕ) → PrecedesDirectly n before s p → IsBefore n before t p
    further p last_step = elim up [
      | inl e ↦ (let P : ℕ → Type 0 = λ k. IsBefore n before k p in subst P (sym e) (step s p last_step))
      | inr first ↦ path t s p first last_step
    ]

comes_by : (n : ℕ) (before : List Event) (event : Event) (last : Option ℕ) (t s : ℕ) → last ≡ slice_get (positions (is_event_of event.rank) 0 before) (length (positions (is_event_of event.rank) 0 before) - 1) → IsDirectlyBefore n before event s → IsUpTo n before t s → ComesBy n before event last t
comes_by n before event last t s is direct up = elim direct.why [
  | inl own ↦ by_own n before event last t s is own up
  | inr rests ↦ record { at = s; low = direct.less; among = in_second (option_to_list last) (rests_on n before event.rank event.call event.reply) s rests; up = up }
]

arrives : (n : ℕ) (before : List Event) (event : Event) (last : Option ℕ) (t u : ℕ) → last ≡ slice_get (positions (is_event_of event.rank) 0 before) (length (positions (is_event_of event.rank) 0 before) - 1) → u ≡ length before → IsBefore n (before ++ event ∷ []) t u → ComesBy n before event last t
arrives n before event last _ _ is at (step t u last_step) =
    let P : ℕ → Type 0 = λ k. PrecedesDirectly n (before ++ event ∷ []) t k in
    comes_by n before event last t t is (step_from n before event t (subst P at last_step)) (inl refl)
arrives n before event last _ _ is at (path s t u first last_step) =
    let P : ℕ → Type 0 = λ k. PrecedesDirectly n (before ++ event ∷ []) t k in
    let direct = step_from n before event t (subst P at last_step) in
    comes_by n before event last s t is direct (inr (before-back n before (event ∷ []) s t direct.less first))

-- the new clock, of an earlier event of another rank
other_tells : (n : ℕ) (before : List Event) (event : Event) (clocks : List (List ℕ)) (last : Option ℕ) (joined : List ℕ) → IsMade n before event clocks last joined → (t : ℕ) (e : Event) → slice_get before t ≡ Some e → (number_of_event before e.rank t < get_or joined e.rank 0) ↔ IsBefore n (before ++ event ∷ []) t (length before)
other_tells n before event clocks last joined made t e there = (
  λ above. elim (made.join.from e.rank (number_of_event before e.rank t) above) [
    | inl zeros ↦ (let none = get_or-zeros n e.rank in absurd (omega (arith, none, zeros)))
    | inr over ↦ (
        let many = made.clocks_are.as_many in
        let low = slice_get-below clocks over.at over.clock over.there in
        let direct = source_direct n before event last over.at made.last_is (omega (arith, many, low)) over.placed in
        path_of n before event t over.at direct (number_below n before clocks t over.at e over.clock made.clocks_are there over.there over.above))
  ],
  λ is.
      let by = arrives n before event last t (length before) made.last_is refl is in
      let many = made.clocks_are.as_many in
      let within = by.low in
      let clock = below_some clocks by.at (omega (arith, many, within)) in
      let low : t ≤ by.at = up_low by.at by.up in
      let above = ((made.clocks_are.each by.at clock.0 clock.1).tells t e low there).1 by.up in
      let joins = made.join.each by.at clock.0 by.among clock.1 e.rank in
      omega (arith, above, joins),
)
  where
    up_low : (s : ℕ) → IsUpTo n before t s → t ≤ s
    up_low s up = elim up [
      | inl same ↦ omega (arith, same)
      | inr first ↦ (let less = before-less n before t s first in omega (arith, less))
    ]

pub front_number : (before : List Event) (event : Event) (rank t : ℕ) → t ≤ length before → number_of_event (before ++ event ∷ []) rank t ≡ number_of_event before rank t
front_number before event rank t low = ap (next_number rank) (take-append-le t before (event ∷ []) low)

whole : (before : List Event) (event : Event) → take (suc (length before)) (before ++ event ∷ []) ≡ before ++ event ∷ []
whole before event = take_all (suc (length before)) (before ++ event ∷ []) (let long = length-append before (event ∷ []) in omega (arith, long))

over : (a b : ℕ) → (a ≤ b) ⊎ (b < a)
over zero b = inl (omega arith)
over (suc a) zero = inr (omega arith)
over (suc a) (suc b) = elim (over a b) [ inl h ↦ inl (omega (arith, h)) | inr h ↦ inr (omega (arith, h)) ]

-- the clock of one more event
pub new_clock : (n : ℕ) (before : List Event) (event : Event) (clocks : List (List ℕ)) (last : Option ℕ) (joined : List ℕ) → IsMade n before event clocks last joined → IsClock n (before ++ event ∷ []) (length before) (set joined event.rank (next_number event.rank before + 1))
new_clock n before event clocks last joined made =
    let count : ℕ = next_number event.rank before + 1 in
    let many = made.join.as_many in
    let zeros = length-replicate n 0 in
    let below = made.below in
    let within : event.rank < length joined = omega (arith, many, zeros, below) in
    let now : get_or (set joined event.rank count) event.rank 0 ≡ count = get_or-set_same joined event.rank count 0 within in
    record {
      wide = length-set joined event.rank count ∙ many ∙ zeros;
      few = λ rank. elim (test_cases (event.rank == rank)) [
        | inl h ↦ (
            let P : ℕ → Type 0 = λ r. get_or (set joined event.rank count) r 0 ≤ next_number r (take (suc (length before)) (before ++ event ∷ [])) in
            let own = count-own before event in
            let all = ap (next_number event.rank) (whole before event) in
            let here : P event.rank = omega (arith, now, own, all) in
            subst P (eqb-true event.rank rank h) here)
        | inr h ↦ (
            let ne : rank ≢ event.rank = λ e. let t : (event.rank == rank) ≡ true = eq-eqb event.rank rank (sym e) in cc in
            let same = get_or-set_other joined event.rank rank count 0 ne in
            let all = ap (next_number rank) (whole before event) in
            let kept = count-other before event rank h in
            let bound = few_joined rank in
            omega (arith, same, all, kept, bound))
      ];
      tells = λ t e low there. elim (slice_get-push before event t e there) [
        | inl at ↦ (
            let some : Some event ≡ Some e = sym (slice_get-last before event) ∙ (let G : ℕ → Type 0 = λ k. slice_get (before ++ event ∷ []) k ≡ Some e in subst G at there) in
            let same : event ≡ e = cc in
            let number = front_number before event event.rank t low in
            let less = count-take event.rank t before in
            let T : Event → Type 0 = λ x. (number_of_event (before ++ event ∷ []) x.rank t < get_or (set joined event.rank count) x.rank 0) ↔ IsUpTo n (before ++ event ∷ []) t (length before) in
            subst T same (λ above. inl at, λ up. omega (arith, now, number, less)))
        | inr was ↦ elim (test_cases (event.rank == e.rank)) [
          | inl h ↦ (
              let own : e.rank ≡ event.rank = sym (eqb-true event.rank e.rank h) in
              let inside = slice_get-below before t e was in
              let number = front_number before event e.rank t low in
              let less = count-take e.rank t before in
              let counts = ap (λ r. next_number r before) own in
              let entry = ap (λ r. get_or (set joined event.rank count) r 0) own in (
                λ above. inr (step t (length before) (step_to n before event t (record { less = inside; why = inl (record { earlier = e; at = was; own = own }) }))),
                λ up. omega (arith, now, number, less, counts, entry),
              ))
          | inr h ↦ (
              let ne : e.rank ≢ event.rank = λ x. let t : (event.rank == e.rank) ≡ true = eq-eqb event.rank e.rank (sym x) in cc in
              let same = get_or-set_other joined event.rank e.rank count 0 ne in
              let number = front_number before event e.rank t low in
              let inside = slice_get-below before t e was in
              let tells = other_tells n before event clocks last joined made t e was in (
                λ above. inr (tells.0 (omega (arith, same, number, above))),
                λ up. elim up [
                  | inl at ↦ absurd (omega (arith, at, inside))
                  | inr is ↦ (let above = tells.1 is in omega (arith, same, number, above))
                ],
              ))
        ]
      ];
    }
  where
    few_joined : (rank : ℕ) → get_or joined rank 0 ≤ next_number rank before
    few_joined rank = elim (over (get_or joined rank 0) (next_number rank before)) [
      | inl low ↦ low
      | inr above ↦ elim (made.join.from rank (next_number rank before) above) [
        | inl zeros ↦ (let none = get_or-zeros n rank in absurd (omega (arith, none, zeros)))
        | inr other ↦ (
            let few = (made.clocks_are.each other.at other.clock other.there).few rank in
            let less = count-take rank (suc other.at) before in
            let high = other.above in
            absurd (omega (arith, few, less, high)))
      ]
    ]

-- a clock stays one, with more events
pub clock_kept : (n : ℕ) (events : List Event) (event : Event) (u : ℕ) (clock : List ℕ) → u < length events → IsClock n events u clock → IsClock n (events ++ event ∷ []) u clock
clock_kept n events event u clock low is =
    let same : take (suc u) (events ++ event ∷ []) ≡ take (suc u) events = take-append-le (suc u) events (event ∷ []) (omega (arith, low)) in
    record {
      wide = is.wide;
      few = λ rank. (let few = is.few rank in let equal = ap (next_number rank) same in omega (arith, few, equal));
      tells = λ t e less there.
          let was = get_front events (event ∷ []) t e (omega (arith, less, low)) there in
          let number = front_number events event e.rank t (omega (arith, less, low)) in
          let tells = is.tells t e less was in (
            λ above. elim (tells.0 (omega (arith, number, above))) [
              | inl at ↦ inl at
              | inr first ↦ inr (before-kept n events (event ∷ []) t u first)
            ],
            λ up.
                let back : IsUpTo n events t u = elim up [
                  | inl at ↦ inl at
                  | inr first ↦ inr (before-back n events (event ∷ []) t u low first)
                ] in
                let above = tells.1 back in
                omega (arith, number, above),
          );
    }

-- one more clock, and one more number
pub clocks-push : (n : ℕ) (events : List Event) (event : Event) (clocks : List (List ℕ)) (clock : List ℕ) → AreClocks n events clocks → IsClock n (events ++ event ∷ []) (length events) clock → AreClocks n (events ++ event ∷ []) (clocks ++ clock ∷ [])
clocks-push n events event clocks clock are is =
    let many = are.as_many in
    record {
      as_many = (let a = length-append clocks (clock ∷ []) in let b = length-append events (event ∷ []) in omega (arith, a, b, many));
      each = λ u one there. elim (slice_get-push clocks clock u one there) [
        | inl at ↦ (
            let some : Some clock ≡ Some one = sym (slice_get-last clocks clock) ∙ (let G : ℕ → Type 0 = λ k. slice_get (clocks ++ clock ∷ []) k ≡ Some one in subst G at there) in
            let same : clock ≡ one = cc in
            let here : length events ≡ u = omega (arith, at, many) in
            let P : ℕ → List ℕ → Type 0 = λ k c. IsClock n (events ++ event ∷ []) k c in
            let first : P u clock = subst (λ (k : ℕ). P k clock) here is in
            subst (λ (c : List ℕ). P u c) same first)
        | inr was ↦ (
            let low = slice_get-below clocks u one was in
            clock_kept n events event u one (omega (arith, low, many)) (are.each u one was))
      ];
    }
