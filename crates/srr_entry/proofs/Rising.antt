-- Lists that rise, as `is_sorted_by` tells.
use Rattle.std.proofs.Common.{◌≡◌, ◌<◌, ◌≤◌, ◌+◌, ◌&&◌, ℕ, zero, suc, List, [], ◌∷◌, Bool, true, false, arith, get_or, length, map, nat_le, nat_lt, refl, sym}
use Rattle.std.specs.List.{IsAllAdjacentAnswer}
use Rattle.std.proofs.lemmas.Bool.{le-leb, ltb-true}
use Rattle.mpi_call.specs.Lists.{rises}

and-false : (b : Bool) → (b && false) ≡ false
and-false true = refl
and-false false = refl

suc-one : (k : ℕ) → suc k + 1 ≡ suc (k + 1)
suc-one k = omega arith

all_rise : {X : Type 0} (key : X → ℕ) (least : ℕ) (xs : List X) → ((d : X) → 0 < length xs → least ≤ key (get_or xs 0 d))
    → ((k : ℕ) (d : X) → k + 1 < length xs → true ≡ nat_lt (key (get_or xs k d)) (key (get_or xs (k + 1) d)))
    → rises least (map key xs) ≡ true
all_rise key least [] low each = refl
all_rise {X} key least (x ∷ xs) low each =
    let first : nat_le least (key x) ≡ true = le-leb least (key x) (low x (omega arith)) in
    let next : (d : X) → 0 < length xs → key x + 1 ≤ key (get_or xs 0 d) = λ d some.
    (let less : key x < key (get_or xs 0 d) = ltb-true (key x) (key (get_or xs 0 d)) (sym (each 0 d (omega (arith, some)))) in omega (arith, less)) in
    rw (first, all_rise key (key x + 1) xs next (λ k d less. (let h = each (suc k) d (omega (arith, less)) in rw (suc-one k) at h)))

one_falls : {X : Type 0} (key : X → ℕ) (least : ℕ) (xs : List X) (k : ℕ) → k + 1 < length xs
    → ((d : X) → false ≡ nat_lt (key (get_or xs k d)) (key (get_or xs (k + 1) d)))
    → rises least (map key xs) ≡ false
one_falls key least [] k less falls = absurd (omega (arith, less))
one_falls key least (x ∷ []) k less falls = absurd (omega (arith, less))
one_falls key least (x ∷ y ∷ xs) zero less falls =
    let more : key x + 1 ≡ suc (key x) = omega arith in
    let second : nat_le (key x + 1) (key y) ≡ false = rw more (sym (falls x)) in
    rw (second, and-false (nat_le least (key x)))
one_falls key least (x ∷ y ∷ xs) (suc k) less falls =
    let later = one_falls key (key x + 1) (y ∷ xs) k (omega (arith, less)) (λ d. (let h = falls d in rw (suc-one k) at h)) in
    rw (later, and-false (nat_le least (key x)))

pub rises_sorted : {X : Type 0} (key : X → ℕ) (xs : List X) (result : Bool) → IsAllAdjacentAnswer (λ x y b. b ≡ nat_lt (key x) (key y)) xs result
    → result ≡ rises 0 (map key xs)
rises_sorted key xs true all = sym (all_rise key 0 xs (λ d some. omega arith) all)
rises_sorted key xs false one = sym (one_falls key 0 xs one.0 one.1 one.2)
