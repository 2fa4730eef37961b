-- Twins: positions of two histories at which a rank has its event of one number.
use Rattle.std.proofs.Common.{◌≡◌, ◌<◌, ◌+◌, ◌==◌, ◌++◌, ◌∷◌, [], ℕ, zero, suc, Bool, List, Some, true, false, inl, inr, refl, ap, sym, ◌∙◌, arith, drop, length, nat_lt, slice_get, subst, take}
use Rattle.std.proofs.lemmas.Bool.{cases_lt, cases_order, eq-eqb, eqb-true, le-ltb, lt-ltb}
use Rattle.std.proofs.lemmas.List.{take-append-drop}
use Rattle.mpi_call.specs.declared.call.Call.{Call}
use Rattle.mpi_call.specs.declared.reply.Reply.{Reply}
use Rattle.mpi_call.specs.Lists.{IsIn}
use Rattle.run_model.specs.declared.event.Event.{Event}
use Rattle.run_model.specs.Views.{View, view_of}
use Rattle.run_model.proofs.StartLemmas.{slice_get-append, slice_get-below}
use Rattle.run_model.proofs.Views.{test_cases}
use Rattle.causes.specs.Positions.{is_event_of, positions}
use Rattle.causes.proofs.Deciding.{below_some}
use Rattle.causes.proofs.PositionLemmas.{in-placed, positions-append, positions-rise}
use Rattle.run_drawing.proofs.Alike.{AreAlike, alike_each}
use Rattle.run_drawing.proofs.LaneLemmas.{rising_less}

-- where a rank's event of a number stands, and what its view says of it
pub record IsPlace (events : List Event) (rank number at : ℕ) : Type 0 where
  pub event : Event
  pub there : slice_get events at ≡ Some event
  pub own : event.rank ≡ rank
  pub seen : slice_get (view_of events rank) number ≡ Some (event.call, event.reply)
  pub before : view_of (take at events) rank ≡ take number (view_of events rank)

-- the same, where the first event has position `from`
record IsPlaceFrom (from : ℕ) (events : List Event) (rank number at : ℕ) : Type 0 where
  place : ℕ
  is : at ≡ from + place
  placed : IsPlace events rank number place

-- one event more in front, of the rank or of another
place_own : (from : ℕ) (x : Event) (xs : List Event) (rank number at : ℕ) → (x.rank == rank) ≡ true → IsPlaceFrom (from + 1) xs rank number at → IsPlaceFrom from (x ∷ xs) rank (suc number) at
place_own from x xs rank number at own rest =
    let is = rest.is in
    let placed = rest.placed in
    record {
      place = suc rest.place;
      is = omega (arith, is);
      placed = record { event = placed.event; there = placed.there; own = placed.own; seen = rw own placed.seen; before = rw own (ap (λ l. (x.call, x.reply) ∷ l) placed.before) };
    }

place_other : (from : ℕ) (x : Event) (xs : List Event) (rank number at : ℕ) → (x.rank == rank) ≡ false → IsPlaceFrom (from + 1) xs rank number at → IsPlaceFrom from (x ∷ xs) rank number at
place_other from x xs rank number at other rest =
    let is = rest.is in
    let placed = rest.placed in
    record {
      place = suc rest.place;
      is = omega (arith, is);
      placed = record { event = placed.event; there = placed.there; own = placed.own; seen = rw other placed.seen; before = rw other placed.before };
    }

place_from : (rank from : ℕ) (events : List Event) (number at : ℕ) → slice_get (positions (is_event_of rank) from events) number ≡ Some at → IsPlaceFrom from events rank number at
place_from rank from [] number at h = absurd (cc)
place_from rank from (x ∷ xs) zero at h = elim (test_cases (x.rank == rank)) [
  | inl own ↦ (
      let some : Some from ≡ Some at = rw own at h in
      let here : from ≡ at = cc in
      record {
        place = 0;
        is = omega (arith, here);
        placed = record { event = x; there = refl; own = eqb-true x.rank rank own; seen = rw own refl; before = refl };
      })
  | inr other ↦ place_other from x xs rank zero at other (place_from rank (from + 1) xs zero at (rw other at h))
]
place_from rank from (x ∷ xs) (suc number) at h = elim (test_cases (x.rank == rank)) [
  | inl own ↦ place_own from x xs rank number at own (place_from rank (from + 1) xs number at (rw own at h))
  | inr other ↦ place_other from x xs rank (suc number) at other (place_from rank (from + 1) xs (suc number) at (rw other at h))
]

pub place_of : (events : List Event) (rank number at : ℕ) → slice_get (positions (is_event_of rank) 0 events) number ≡ Some at → IsPlace events rank number at
place_of events rank number at h =
    let found = place_from rank 0 events number at h in
    let is = found.is in
    let same : found.place ≡ at = omega (arith, is) in
    let P : ℕ → Type 0 = λ k. IsPlace events rank number k in
    subst P same found.placed

-- a rank has as many positions as its view has events
pub as_many_seen : (rank from : ℕ) (events : List Event) → length (positions (is_event_of rank) from events) ≡ length (view_of events rank)
as_many_seen rank from [] = refl
as_many_seen rank from (x ∷ xs) = elim (test_cases (x.rank == rank)) [
  | inl own ↦ rw own (ap suc (as_many_seen rank (from + 1) xs))
  | inr other ↦ rw other (as_many_seen rank (from + 1) xs)
]

pub in_get : {A : Type 0} (xs : List A) (x : A) → IsIn x xs → (k : ℕ) × (slice_get xs k ≡ Some x)
in_get [] x h = absurd h
in_get (y ∷ xs) x h = elim h [
  | inl e ↦ (0, ap (λ z. Some z) e)
  | inr later ↦ (let rest = in_get xs x later in (suc rest.0, rest.1))
]

-- the number of the event at a position
pub number_there : (events : List Event) (at : ℕ) (event : Event) → slice_get events at ≡ Some event → (number : ℕ) × (slice_get (positions (is_event_of event.rank) 0 events) number ≡ Some at)
number_there events at event there =
    in_get (positions (is_event_of event.rank) 0 events) at (in-placed (is_event_of event.rank) events at event there (eq-eqb event.rank event.rank refl))

-- a rank's event of one number stands at these positions
pub record IsTwin (one other : List Event) (p q : ℕ) : Type 0 where
  pub rank : ℕ
  pub number : ℕ
  pub first : slice_get (positions (is_event_of rank) 0 one) number ≡ Some p
  pub second : slice_get (positions (is_event_of rank) 0 other) number ≡ Some q

abbrev pub turned : (one other : List Event) (p q : ℕ) → IsTwin one other p q → IsTwin other one q p
turned one other p q twin = record { rank = twin.rank; number = twin.number; first = twin.second; second = twin.first }

-- in longer histories they are twins too
pub longer_passing : (test : Event → Bool) (events : List Event) (k number p : ℕ) → slice_get (positions test 0 (take k events)) number ≡ Some p → slice_get (positions test 0 events) number ≡ Some p
longer_passing test events k number p h =
    let front : List Event = take k events in
    let rest : List Event = drop k events in
    let parts : positions test 0 (front ++ rest) ≡ positions test 0 front ++ positions test (0 + length front) rest = positions-append test 0 front rest in
    let P : List Event → Type 0 = λ l. slice_get (positions test 0 l) number ≡ Some p in
    let Q : List ℕ → Type 0 = λ l. slice_get l number ≡ Some p in
    subst P (take-append-drop k events) (subst Q (sym parts) (slice_get-append (positions test 0 front) (positions test (0 + length front) rest) number p h))

pub longer_twins : (one other : List Event) (j k p q : ℕ) → IsTwin (take j one) (take k other) p q → IsTwin one other p q
longer_twins one other j k p q twin = record {
  rank = twin.rank;
  number = twin.number;
  first = longer_passing (is_event_of twin.rank) one j twin.number p twin.first;
  second = longer_passing (is_event_of twin.rank) other k twin.number q twin.second;
}

-- the numbers of positions of one rank rise with them
pub numbers_rise : (events : List Event) (rank i j p q : ℕ) → slice_get (positions (is_event_of rank) 0 events) i ≡ Some p → slice_get (positions (is_event_of rank) 0 events) j ≡ Some q → p < q → i < j
numbers_rise events rank i j p q one other less = elim (cases_order i j) [
  | inl same ↦ (
      let P : ℕ → Type 0 = λ k. slice_get (positions (is_event_of rank) 0 events) k ≡ Some p in
      let both : Some p ≡ Some q = sym (subst P same one) ∙ other in
      let equal : p ≡ q = cc in
      absurd (omega (arith, less, equal)))
  | inr apart ↦ elim apart [
    | inl low ↦ low
    | inr high ↦ (let more = rising_less 0 (positions (is_event_of rank) 0 events) j i q p (positions-rise (is_event_of rank) 0 events) high other one in absurd (omega (arith, less, more)))
  ]
]

one_number : (events : List Event) (rank i j p : ℕ) → slice_get (positions (is_event_of rank) 0 events) i ≡ Some p → slice_get (positions (is_event_of rank) 0 events) j ≡ Some p → i ≡ j
one_number events rank i j p one other = elim (cases_order i j) [
  | inl same ↦ same
  | inr apart ↦ elim apart [
    | inl low ↦ (let less = rising_less 0 (positions (is_event_of rank) 0 events) i j p p (positions-rise (is_event_of rank) 0 events) low one other in absurd (omega (arith, less)))
    | inr high ↦ (let less = rising_less 0 (positions (is_event_of rank) 0 events) j i p p (positions-rise (is_event_of rank) 0 events) high other one in absurd (omega (arith, less)))
  ]
]

-- the rank at a position is one
one_rank : (events : List Event) (rank rank' i j p : ℕ) → slice_get (positions (is_event_of rank) 0 events) i ≡ Some p → slice_get (positions (is_event_of rank') 0 events) j ≡ Some p → rank ≡ rank'
one_rank events rank rank' i j p one other =
    let a = place_of events rank i p one in
    let b = place_of events rank' j p other in
    let both : Some a.event ≡ Some b.event = sym a.there ∙ b.there in
    let same : a.event ≡ b.event = cc in
    sym a.own ∙ (ap (λ (e : Event). e.rank) same ∙ b.own)

-- a position has one twin
pub one_twin : (one other : List Event) (p q p' q' : ℕ) → IsTwin one other p q → IsTwin one other p' q' → p ≡ p' → q ≡ q'
one_twin one other p q p' q' twin twin' same =
    let P : ℕ → Type 0 = λ k. slice_get (positions (is_event_of twin.rank) 0 one) twin.number ≡ Some k in
    let first : slice_get (positions (is_event_of twin.rank) 0 one) twin.number ≡ Some p' = subst P same twin.first in
    let rank : twin.rank ≡ twin'.rank = one_rank one twin.rank twin'.rank twin.number twin'.number p' first twin'.first in
    let R : ℕ → Type 0 = λ r. slice_get (positions (is_event_of r) 0 one) twin.number ≡ Some p' in
    let S : ℕ → Type 0 = λ r. slice_get (positions (is_event_of r) 0 other) twin.number ≡ Some q in
    let number : twin.number ≡ twin'.number = one_number one twin'.rank twin.number twin'.number p' (subst R rank first) twin'.first in
    let N : ℕ → Type 0 = λ k. slice_get (positions (is_event_of twin'.rank) 0 other) k ≡ Some q in
    let both : Some q ≡ Some q' = sym (subst N number (subst S rank twin.second)) ∙ twin'.second in
    cc

pub same_test : (one other : List Event) (p q p' q' : ℕ) → IsTwin one other p q → IsTwin one other p' q' → (p == p') ≡ (q == q')
same_test one other p q p' q' twin twin' = elim (test_cases (p == p')) [
  | inl t ↦ (
      let same : q ≡ q' = one_twin one other p q p' q' twin twin' (eqb-true p p' t) in
      t ∙ sym (eq-eqb q q' same))
  | inr t ↦ elim (test_cases (q == q')) [
    | inl u ↦ (
        let same : p ≡ p' = one_twin other one q p q' p' (turned one other p q twin) (turned one other p' q' twin') (eqb-true q q' u) in
        let no : false ≡ true = sym t ∙ eq-eqb p p' same in
        absurd (cc))
    | inr u ↦ t ∙ sym u
  ]
]

-- what twins of histories with the same views say
pub record AreSaid (one other : List Event) (p q : ℕ) : Type 0 where
  pub event : Event
  pub twin : Event
  pub there : slice_get one p ≡ Some event
  pub twin_there : slice_get other q ≡ Some twin
  pub rank_is : twin.rank ≡ event.rank
  pub call_is : twin.call ≡ event.call
  pub reply_is : twin.reply ≡ event.reply
  pub before : view_of (take q other) event.rank ≡ view_of (take p one) event.rank

-- the views of two histories agree as far as both go
abbrev pub AgreeOn : View → View → Type 0
AgreeOn [] other = Unit {0}
AgreeOn (seen ∷ one) [] = Unit {0}
AgreeOn (seen ∷ one) (also ∷ other) = (seen ≡ also) × AgreeOn one other

pub agree_fronts : (one other rest rest' : View) → one ++ rest ≡ other ++ rest' → AgreeOn one other
agree_fronts [] other rest rest' h = tt
agree_fronts (x ∷ one) [] rest rest' h = tt
agree_fronts (x ∷ one) (y ∷ other) rest rest' h =
    let first : x ≡ y = cc in
    let later : one ++ rest ≡ other ++ rest' = cc in
    (first, agree_fronts one other rest rest' later)

agree_at : (one other : View) (k : ℕ) (x y : Call × Reply) → AgreeOn one other → slice_get one k ≡ Some x → slice_get other k ≡ Some y → x ≡ y
agree_at [] other k x y agree h h' = absurd (cc)
agree_at (a ∷ one) [] k x y agree h h' = absurd (cc)
agree_at (a ∷ one) (b ∷ other) zero x y agree h h' =
    let first : a ≡ x = cc in
    let second : b ≡ y = cc in
    sym first ∙ (agree.0 ∙ second)
agree_at (a ∷ one) (b ∷ other) (suc k) x y agree h h' = agree_at one other k x y agree.1 h h'

agree_takes : (one other : View) (k : ℕ) → AgreeOn one other → k < length one → k < length other → take k one ≡ take k other
agree_takes [] other k agree low low' = absurd (omega (arith, low))
agree_takes (a ∷ one) [] k agree low low' = absurd (omega (arith, low'))
agree_takes (a ∷ one) (b ∷ other) zero agree low low' = refl
agree_takes (a ∷ one) (b ∷ other) (suc k) agree low low' =
    let less : suc k < suc (length one) = low in
    let less' : suc k < suc (length other) = low' in
    ap (λ l. a ∷ l) (agree_takes one other k agree.1 (omega (arith, less)) (omega (arith, less'))) ∙ ap (λ x. x ∷ take k other) agree.0

-- each rank's views agree
abbrev pub HaveOneFuture : List Event → List Event → Type 0
HaveOneFuture one other = (rank : ℕ) → AgreeOn (view_of one rank) (view_of other rank)

pub same_pairs : (x y : Call × Reply) → x ≡ y → (x.0 ≡ y.0) × (x.1 ≡ y.1)
same_pairs x y e = (ap (λ (p : Call × Reply). p.0) e, ap (λ (p : Call × Reply). p.1) e)

pub said : (one other : List Event) (p q : ℕ) → HaveOneFuture one other → IsTwin one other p q → AreSaid one other p q
said one other p q agree twin =
    let rank : ℕ = twin.rank in
    let a = place_of one rank twin.number p twin.first in
    let b = place_of other rank twin.number q twin.second in
    let pair : (b.event.call, b.event.reply) ≡ (a.event.call, a.event.reply) =
    sym (agree_at (view_of one rank) (view_of other rank) twin.number (a.event.call, a.event.reply) (b.event.call, b.event.reply) (agree rank) a.seen b.seen) in
    let parts = same_pairs (b.event.call, b.event.reply) (a.event.call, a.event.reply) pair in
    let low = slice_get-below (view_of one rank) twin.number (a.event.call, a.event.reply) a.seen in
    let low' = slice_get-below (view_of other rank) twin.number (b.event.call, b.event.reply) b.seen in
    let fronts : view_of (take q other) rank ≡ view_of (take p one) rank =
    b.before ∙ (sym (agree_takes (view_of one rank) (view_of other rank) twin.number (agree rank) low low') ∙ sym a.before) in
    let R : ℕ → Type 0 = λ r. view_of (take q other) r ≡ view_of (take p one) r in
    record {
      event = a.event;
      twin = b.event;
      there = a.there;
      twin_there = b.there;
      rank_is = b.own ∙ sym a.own;
      call_is = parts.0;
      reply_is = parts.1;
      before = subst R (sym a.own) fronts;
    }

-- an event has its twin in a history in which its rank has seen as much
pub twin_there : (one other : List Event) (p : ℕ) (event : Event) → view_of one event.rank ≡ view_of other event.rank → slice_get one p ≡ Some event → (q : ℕ) × IsTwin one other p q
twin_there one other p event same there =
    let rank : ℕ = event.rank in
    let found = number_there one p event there in
    let low = slice_get-below (positions (is_event_of rank) 0 one) found.0 p found.1 in
    let a = as_many_seen rank 0 one in
    let b = as_many_seen rank 0 other in
    let long = ap (λ (v : View). length v) same in
    let second = below_some (positions (is_event_of rank) 0 other) found.0 (omega (arith, low, a, b, long)) in
    (second.0, record { rank = rank; number = found.0; first = found.1; second = second.1 })

-- the events of a rank are twins, one by one
pub own_twins : (one other : List Event) (rank : ℕ) → view_of one rank ≡ view_of other rank → AreAlike (IsTwin one other) (positions (is_event_of rank) 0 one) (positions (is_event_of rank) 0 other)
own_twins one other rank same =
    alike_each (IsTwin one other) (positions (is_event_of rank) 0 one) (positions (is_event_of rank) 0 other)
    (as_many_seen rank 0 one ∙ (ap (λ (v : View). length v) same ∙ sym (as_many_seen rank 0 other)))
    (λ k p q h h'. record { rank = rank; number = k; first = h; second = h' })

-- twins of one rank stand in one order
pub same_order : (one other : List Event) (p q p' q' : ℕ) (twin : IsTwin one other p q) (twin' : IsTwin one other p' q') → twin.rank ≡ twin'.rank → p < p' → q < q'
same_order one other p q p' q' twin twin' rank less =
    let R : ℕ → Type 0 = λ r. slice_get (positions (is_event_of r) 0 one) twin.number ≡ Some p in
    let S : ℕ → Type 0 = λ r. slice_get (positions (is_event_of r) 0 other) twin.number ≡ Some q in
    let numbers = numbers_rise one twin'.rank twin.number twin'.number p p' (subst R rank twin.first) twin'.first less in
    rising_less 0 (positions (is_event_of twin'.rank) 0 other) twin.number twin'.number q q' (positions-rise (is_event_of twin'.rank) 0 other) numbers (subst S rank twin.second) twin'.second

pub same_less : (one other : List Event) (p q p' q' : ℕ) (twin : IsTwin one other p q) (twin' : IsTwin one other p' q') → twin.rank ≡ twin'.rank → nat_lt p p' ≡ nat_lt q q'
same_less one other p q p' q' twin twin' rank = elim (cases_lt p p') [
  | inl less ↦ (
      let more = same_order one other p q p' q' twin twin' rank less in
      let one_is : nat_lt p p' ≡ true = lt-ltb p p' less in
      let other_is : nat_lt q q' ≡ true = lt-ltb q q' more in
      one_is ∙ sym other_is)
  | inr low ↦ elim (cases_lt q q') [
    | inl more ↦ (
        let less = same_order other one q p q' p' (turned one other p q twin) (turned one other p' q' twin') rank more in
        absurd (omega (arith, low, less)))
    | inr high ↦ (
        let one_is : nat_lt p p' ≡ false = le-ltb p p' low in
        let other_is : nat_lt q q' ≡ false = le-ltb q q' high in
        one_is ∙ sym other_is)
  ]
]
