-- Paths in longer histories.
use Rattle.std.proofs.Common.{◌≡◌, ◌≤◌, ◌<◌, ℕ, zero, suc, List, [], ◌∷◌, ◌++◌, Some, sym, arith, length, subst, take, slice_get}
use Rattle.std.proofs.lemmas.List.{take-append-le}
use Rattle.run_model.specs.declared.event.Event.{Event}
use Rattle.run_model.proofs.StartLemmas.{slice_get-append, slice_get-below}
use Rattle.causes.specs.Before.{IsBefore, IsDirectlyBefore, PrecedesDirectly}
use Rattle.causes.specs.Before.IsBefore.{step, path}

length-taken : {A : Type 0} (k : ℕ) (xs : List A) → length (take k xs) ≤ k
length-taken zero xs = omega arith
length-taken (suc k) [] = omega arith
length-taken (suc k) (x ∷ xs) = (let rest = length-taken k xs in omega (arith, rest))

pub step-less : (n : ℕ) (events : List Event) (t u : ℕ) → PrecedesDirectly n events t u → t < u
step-less n events t u is =
    let less = is.direct.less in
    let long = length-taken u events in
    omega (arith, less, long)

pub step-within : (n : ℕ) (events : List Event) (t u : ℕ) → PrecedesDirectly n events t u → u < length events
step-within n events t u is = slice_get-below events u is.event is.at

pub before-less : (n : ℕ) (events : List Event) (t u : ℕ) → IsBefore n events t u → t < u
before-less n events _ _ (step t u is) = step-less n events t u is
before-less n events _ _ (path s t u first is) =
    let less = before-less n events s t first in
    let last = step-less n events t u is in
    omega (arith, less, last)

pub before-within : (n : ℕ) (events : List Event) (t u : ℕ) → IsBefore n events t u → u < length events
before-within n events _ _ (step t u is) = step-within n events t u is
before-within n events _ _ (path s t u first is) = step-within n events t u is

-- a step stays one, and a step of before is one there
pub step-kept : (n : ℕ) (events ys : List Event) (t u : ℕ) → PrecedesDirectly n events t u → PrecedesDirectly n (events ++ ys) t u
step-kept n events ys t u is =
    let low = step-within n events t u is in
    let same : take u events ≡ take u (events ++ ys) = sym (take-append-le u events ys (omega (arith, low))) in
    let P : List Event → Type 0 = λ l. IsDirectlyBefore n l is.event t in
    record { event = is.event; at = slice_get-append events ys u is.event is.at; direct = subst P same is.direct }

pub get_front : {A : Type 0} (xs ys : List A) (k : ℕ) (x : A) → k < length xs → slice_get (xs ++ ys) k ≡ Some x → slice_get xs k ≡ Some x
get_front [] ys k x low h = absurd (omega (arith, low))
get_front (y ∷ xs) ys zero x low h = h
get_front (y ∷ xs) ys (suc k) x low h = get_front xs ys k x (omega (arith, low)) h

pub step-back : (n : ℕ) (events ys : List Event) (t u : ℕ) → u < length events → PrecedesDirectly n (events ++ ys) t u → PrecedesDirectly n events t u
step-back n events ys t u low is =
    let same : take u (events ++ ys) ≡ take u events = take-append-le u events ys (omega (arith, low)) in
    let P : List Event → Type 0 = λ l. IsDirectlyBefore n l is.event t in
    record { event = is.event; at = get_front events ys u is.event low is.at; direct = subst P same is.direct }

pub before-kept : (n : ℕ) (events ys : List Event) (t u : ℕ) → IsBefore n events t u → IsBefore n (events ++ ys) t u
before-kept n events ys _ _ (step t u is) = step t u (step-kept n events ys t u is)
before-kept n events ys _ _ (path s t u first is) = path s t u (before-kept n events ys s t first) (step-kept n events ys t u is)

pub before-back : (n : ℕ) (events ys : List Event) (t u : ℕ) → u < length events → IsBefore n (events ++ ys) t u → IsBefore n events t u
before-back n events ys _ _ low (step t u is) = step t u (step-back n events ys t u low is)
before-back n events ys _ _ low (path s t u first is) =
    let less = step-less n (events ++ ys) t u is in
    path s t u (before-back n events ys s t (omega (arith, less, low)) first) (step-back n events ys t u low is)
