-- Clocks decide whether an event is before another.
use Rattle.std.proofs.Common.{◌≡◌, ◌≤◌, ◌<◌, ◌⊎◌, ◌↔◌, ℕ, zero, suc, List, [], ◌∷◌, ◌++◌, Some, inl, inr, refl, ap, sym, ◌∙◌, arith, get_or, length, length-append, nat_lt, slice_get, subst, take, IsTrue}
use Rattle.std.proofs.lemmas.Bool.{lt-ltb, ltb-true}
use Rattle.std.proofs.lemmas.List.{take-append-le, take_all}
use Rattle.run_model.specs.declared.event.Event.{Event}
use Rattle.run_model.proofs.StartLemmas.{slice_get-below, slice_get-last, slice_get-push}
use Rattle.causes.specs.Before.{IsBefore, IsUpTo}
use Rattle.causes.specs.Clocks.{AreClocks, AreNumbers, IsClock, number_of_event}
use Rattle.causes.specs.Positions.{next_number}
use Rattle.causes.specs.Beside.{AreTables}
use Rattle.causes.specs.inside.Seen.{IsSeenByCauses}
use Rattle.causes.specs.declared.causes.CausesSoFar.{CausesSoFar}
use Rattle.causes.proofs.NewClocks.{clocks-push, front_number}
use Rattle.causes.proofs.Paths.{before-less, before-within}

pub below_some : {A : Type 0} (xs : List A) (k : ℕ) → k < length xs → (x : A) × (slice_get xs k ≡ Some x)
below_some [] k h = absurd (omega (arith, h))
below_some (x ∷ xs) zero h = (x, refl)
below_some (x ∷ xs) (suc k) h = below_some xs k (omega (arith, h))

-- one comparison tells
pub before_from : (n : ℕ) (events : List Event) (t u : ℕ) (event : Event) (clock : List ℕ) → IsClock n events u clock → slice_get events t ≡ Some event → t < u → number_of_event events event.rank t < get_or clock event.rank 0 → IsBefore n events t u
before_from n events t u event clock is there less above = elim ((is.tells t event (omega (arith, less)) there).0 above) [
  | inl same ↦ absurd (omega (arith, same, less))
  | inr before ↦ before
]

pub above_from : (n : ℕ) (events : List Event) (t u : ℕ) (event : Event) (clock : List ℕ) → IsClock n events u clock → slice_get events t ≡ Some event → IsBefore n events t u → number_of_event events event.rank t < get_or clock event.rank 0
above_from n events t u event clock is there before =
    (let less = before-less n events t u before in (is.tells t event (omega (arith, less)) there).1 (inr before))

-- no position past the events is before another
pub not_before : (n : ℕ) (events : List Event) (t u : ℕ) → (u ≤ t) ⊎ (length events ≤ u) → IsBefore n events t u → ⊥
not_before n events t u past before =
    let less = before-less n events t u before in
    let within = before-within n events t u before in
    elim past [ inl h ↦ absurd (omega (arith, less, h)) | inr h ↦ absurd (omega (arith, within, h)) ]

get_some : {A : Type 0} (xs : List A) (k : ℕ) (d x : A) → slice_get xs k ≡ Some x → get_or xs k d ≡ x
get_some [] k d x h = absurd (cc)
get_some (y ∷ xs) zero d x h = cc
get_some (y ∷ xs) (suc k) d x h = get_some xs k d x h

get_or-front : {A : Type 0} (xs ys : List A) (k : ℕ) (d : A) → k < length xs → get_or (xs ++ ys) k d ≡ get_or xs k d
get_or-front [] ys k d h = absurd (omega (arith, h))
get_or-front (x ∷ xs) ys zero d h = refl
get_or-front (x ∷ xs) ys (suc k) d h = get_or-front xs ys k d (omega (arith, h))

-- one more number
pub numbers-push : (events : List Event) (event : Event) (numbers : List ℕ) (number : ℕ) → number ≡ next_number event.rank events → AreNumbers events numbers → AreNumbers (events ++ event ∷ []) (numbers ++ number ∷ [])
numbers-push events event numbers number is are =
    let many = are.as_many in
    record {
      as_many = (let a = length-append numbers (number ∷ []) in let b = length-append events (event ∷ []) in omega (arith, a, b, many));
      each = λ t e there. elim (slice_get-push events event t e there) [
        | inl at ↦ (
            let some : Some event ≡ Some e = sym (slice_get-last events event) ∙ (let G : ℕ → Type 0 = λ k. slice_get (events ++ event ∷ []) k ≡ Some e in subst G at there) in
            let same : event ≡ e = cc in
            let here : length numbers ≡ t = omega (arith, at, many) in
            let front : take (length events) (events ++ event ∷ []) ≡ events = take-append-le (length events) events (event ∷ []) (omega arith) ∙ take_all (length events) events (omega arith) in
            let value : get_or (numbers ++ number ∷ []) (length numbers) 0 ≡ number_of_event (events ++ event ∷ []) event.rank (length events) =
            get_some (numbers ++ number ∷ []) (length numbers) 0 number (slice_get-last numbers number) ∙ is ∙ ap (next_number event.rank) (sym front) in
            let P : ℕ → Type 0 = λ k. get_or (numbers ++ number ∷ []) k 0 ≡ number_of_event (events ++ event ∷ []) event.rank (length events) in
            let Q : ℕ → Type 0 = λ k. get_or (numbers ++ number ∷ []) t 0 ≡ number_of_event (events ++ event ∷ []) event.rank k in
            let R : Event → Type 0 = λ x. get_or (numbers ++ number ∷ []) t 0 ≡ number_of_event (events ++ event ∷ []) x.rank t in
            subst R same (subst Q (sym at) (subst P here value)))
        | inr was ↦ (
            let low = slice_get-below events t e was in
            get_or-front numbers (number ∷ []) t 0 (omega (arith, low, many))
            ∙ are.each t e was
            ∙ sym (front_number events event e.rank t (omega (arith, low))))
      ];
    }

-- all that is kept, with one more event
pub seen_more : (n : ℕ) (before : List Event) (event : Event) (old new : CausesSoFar) (clock : List ℕ) (number : ℕ) → IsSeenByCauses n before old → AreTables (before ++ event ∷ []) new.tables → new.tables.ranks ≡ old.tables.ranks → new.clocks.items ≡ old.clocks.items ++ clock ∷ [] → IsClock n (before ++ event ∷ []) (length before) clock → new.numbers.items ≡ old.numbers.items ++ number ∷ [] → number ≡ next_number event.rank before → IsSeenByCauses n (before ++ event ∷ []) new
seen_more n before event old new clock number seen tables ranks clocks is numbers counted =
    let C : List (List ℕ) → Type 0 = λ l. AreClocks n (before ++ event ∷ []) l in
    let N : List ℕ → Type 0 = λ l. AreNumbers (before ++ event ∷ []) l in
    record {
      ranks = ranks ∙ seen.ranks;
      tables = tables;
      clocks = subst C (sym clocks) (clocks-push n before event old.clocks.items clock seen.clocks is);
      numbers = subst N (sym numbers) (numbers-push before event old.numbers.items number counted seen.numbers);
    }

-- the comparison of a number with a count
pub decided : (n : ℕ) (events : List Event) (t u count : ℕ) (event : Event) (number : ℕ) → t < u → number ≡ number_of_event events event.rank t → ((number_of_event events event.rank t < count) ↔ IsUpTo n events t u) → IsTrue (nat_lt number count) ↔ IsBefore n events t u
decided n events t u count event number less is tells = (
  λ h. elim (tells.0 (let low = ltb-true number count h in omega (arith, low, is))) [
    | inl same ↦ absurd (omega (arith, same, less))
    | inr before ↦ before
  ],
  λ before. lt-ltb number count (let low = tells.1 (inr before) in omega (arith, low, is)),
)
