-- A list by key is the one list that rises and keeps the elements of each key in their order.
use Rattle.std.proofs.Common.{◌≡◌, ℕ, suc, ◌+◌, ◌<◌, ℤ, List, [], ◌∷◌, length, get_or, Bool, true, false, cond, refl, sym, ap, ap₂, ◌∙◌, subst, inl, inr, arith}
use Rattle.std.proofs.lemmas.Bool.{cases_Bool}
use Rattle.std.proofs.lemmas.Cmp.{int_cmp_total}
use Rattle.std.proofs.lemmas.List.MinMax.{ranks_by}
use Rattle.std.proofs.lemmas.List.Sorted.{sorted_far, answers_always}
use Rattle.std.specs.Bool.{⊤}
use Rattle.std.specs.Borrow.{Bor}
use denote.Param.Members.{Mut}
use Rattle.std.specs.Fn.{Called, ComputesKey}
use Rattle.std.specs.Cmp.{IsStrictWeakOrder}
use Rattle.std.specs.List.{filter}
use Rattle.std.specs.List.Sorted.{IsSortedBy, IsSortedByKey, IsStableByKey, ties}
use Rattle.std.specs.Ordering.{int_cmp, is_lt}
use Rattle.std.specs.Prelude.{int_lt}
use Rattle.mpi_call.specs.Made.{placed, by_key}

-- an element's key is less than another's
abbrev pub less : {A : Type 0} → (A → ℤ) → A → A → Bool
less key x y = is_lt (int_cmp (key x) (key y))

is_lt-int_cmp : (a b : ℤ) → is_lt (int_cmp a b) ≡ int_lt a b
is_lt-int_cmp a b =
    elim (cases_Bool (int_lt a b)) [
      | inl h ↦ rw h refl
      | inr h ↦ elim (cases_Bool (int_lt b a)) [ inl g ↦ rw (h, g) refl | inr g ↦ rw (h, g) refl ]
    ]

less_is : {A : Type 0} (key : A → ℤ) (x y : A) (b : Bool) → int_lt (key x) (key y) ≡ b → less key x y ≡ b
less_is key x y b h = is_lt-int_cmp (key x) (key y) ∙ h

-- keys are an order in which any two compare
less-order : {A : Type 0} (key : A → ℤ) → IsStrictWeakOrder (less key)
less-order key = ranks_by int_cmp_total key

-- each element, and each pair of an element and a later one
abbrev pub Each : {A : Type 0} → (A → Type 0) → List A → Type 0
Each P [] = ⊤
Each P (x ∷ xs) = P x × Each P xs

abbrev pub Rises : {A : Type 0} → (A → A → Bool) → List A → Type 0
Rises lt [] = ⊤
Rises lt (x ∷ xs) = Each (λ y. lt y x ≡ false) xs × Rises lt xs

not_less_itself : {A : Type 0} (lt : A → A → Bool) → IsStrictWeakOrder lt → (x : A) → lt x x ≡ false
not_less_itself lt o x = elim (cases_Bool (lt x x)) [ inl h ↦ o.one_way x x h | inr h ↦ h ]

-- what holds of each element holds of those that pass a test
head_of_filter : {A : Type 0} (P : A → Type 0) (p : A → Bool) (x : A) (rest xs : List A) → Each P xs → filter p xs ≡ x ∷ rest → P x
head_of_filter P p x rest [] each is = absurd (cc)
head_of_filter P p x rest (y ∷ ys) each is =
    elim (cases_Bool (p y)) [
      | inl h ↦ let same : y ≡ x = (let whole : y ∷ filter p ys ≡ x ∷ rest = rw h at is in cc) in subst P same each.0
      | inr h ↦ head_of_filter P p x rest ys each.1 (rw h at is)
    ]

ties_both : {A : Type 0} (lt : A → A → Bool) (x y : A) → lt x y ≡ false → lt y x ≡ false → ties lt x y ≡ true
ties_both lt x y h g = rw (h, g) refl

-- the first elements of two rising lists with the same ties
heads_same : {A : Type 0} (lt : A → A → Bool) → IsStrictWeakOrder lt → (y z : A) (ys zs : List A) → Rises lt (y ∷ ys) → Rises lt (z ∷ zs)
    → ((x : A) → filter (ties lt x) (y ∷ ys) ≡ filter (ties lt x) (z ∷ zs)) → y ≡ z
heads_same lt o y z ys zs rise_y rise_z same =
    let y_itself : ties lt y y ≡ true = ties_both lt y y (not_less_itself lt o y) (not_less_itself lt o y) in
    let z_itself : ties lt z z ≡ true = ties_both lt z z (not_less_itself lt o z) (not_less_itself lt o z) in
    let from_y : filter (ties lt y) (y ∷ ys) ≡ y ∷ filter (ties lt y) ys = rw y_itself refl in
    let from_z : filter (ties lt z) (z ∷ zs) ≡ z ∷ filter (ties lt z) zs = rw z_itself refl in
    let y_not_less : lt y z ≡ false = head_of_filter (λ w. lt w z ≡ false) (ties lt y) y (filter (ties lt y) ys) (z ∷ zs) (not_less_itself lt o z, rise_z.0) (sym (same y) ∙ from_y) in
    let z_not_less : lt z y ≡ false = head_of_filter (λ w. lt w y ≡ false) (ties lt z) z (filter (ties lt z) zs) (y ∷ ys) (not_less_itself lt o y, rise_y.0) (same z ∙ from_z) in
    let tied : ties lt y z ≡ true = ties_both lt y z y_not_less z_not_less in
    let to_z : filter (ties lt y) (z ∷ zs) ≡ z ∷ filter (ties lt y) zs = rw tied refl in
    let both : y ∷ filter (ties lt y) ys ≡ z ∷ filter (ties lt y) zs = sym from_y ∙ (same y ∙ to_z) in
    cc

filter-tail : {A : Type 0} (p : A → Bool) (y : A) (ys zs : List A) → filter p (y ∷ ys) ≡ filter p (y ∷ zs) → filter p ys ≡ filter p zs
filter-tail p y ys zs is =
    elim (cases_Bool (p y)) [
      | inl h ↦ (let whole : y ∷ filter p ys ≡ y ∷ filter p zs = rw h at is in cc)
      | inr h ↦ rw h at is
    ]

rises_unique : {A : Type 0} (lt : A → A → Bool) → IsStrictWeakOrder lt → (ys zs : List A) → Rises lt ys → Rises lt zs
    → ((x : A) → filter (ties lt x) ys ≡ filter (ties lt x) zs) → ys ≡ zs
rises_unique lt o [] [] rise_y rise_z same = refl
rises_unique lt o [] (z ∷ zs) rise_y rise_z same =
    let itself : ties lt z z ≡ true = ties_both lt z z (not_less_itself lt o z) (not_less_itself lt o z) in
    let whole : [] ≡ z ∷ filter (ties lt z) zs = same z ∙ rw itself refl in
    absurd (cc)
rises_unique lt o (y ∷ ys) [] rise_y rise_z same =
    let itself : ties lt y y ≡ true = ties_both lt y y (not_less_itself lt o y) (not_less_itself lt o y) in
    let whole : [] ≡ y ∷ filter (ties lt y) ys = sym (same y) ∙ rw itself refl in
    absurd (cc)
rises_unique {A} lt o (y ∷ ys) (z ∷ zs) rise_y rise_z same =
    let heads : y ≡ z = heads_same lt o y z ys zs rise_y rise_z same in
    let at_y : (x : A) → filter (ties lt x) (y ∷ ys) ≡ filter (ties lt x) (y ∷ zs) = λ x. same x ∙ ap (λ w. filter (ties lt x) (w ∷ zs)) (sym heads) in
    ap₂ (λ w ws. w ∷ ws) heads (rises_unique lt o ys zs rise_y.1 rise_z.1 (λ x. filter-tail (ties lt x) y ys zs (at_y x)))

-- a list by key rises
each_of-placed : {A : Type 0} (key : A → ℤ) (P : A → Type 0) (x : A) (ys : List A) → P x → Each P ys → Each P (placed key x ys)
each_of-placed key P x [] one each = (one, each)
each_of-placed key P x (y ∷ ys) one each =
    elim (cases_Bool (int_lt (key y) (key x))) [
      | inl h ↦ rw h (each.0, each_of-placed key P x ys one each.1)
      | inr h ↦ rw h (one, each)
    ]

each_after : {A : Type 0} (lt : A → A → Bool) → IsStrictWeakOrder lt → (x y : A) (ys : List A) → lt y x ≡ false → Each (λ w. lt w y ≡ false) ys → Each (λ w. lt w x ≡ false) ys
each_after lt o x y [] h each = each
each_after lt o x y (z ∷ ys) h each = (o.chain z y x each.0 h, each_after lt o x y ys h each.1)

rises-placed : {A : Type 0} (key : A → ℤ) (x : A) (ys : List A) → Rises (less key) ys → Rises (less key) (placed key x ys)
rises-placed key x [] rise = (tt, tt)
rises-placed key x (y ∷ ys) rise =
    elim (cases_Bool (int_lt (key y) (key x))) [
      | inl h ↦ rw h (each_of-placed key (λ w. less key w y ≡ false) x ys ((less-order key).one_way y x (less_is key y x true h)) rise.0, rises-placed key x ys rise.1)
      | inr h ↦ rw h ((less_is key y x false h, each_after (less key) (less-order key) x y ys (less_is key y x false h) rise.0), rise)
    ]

rises-by_key : {A : Type 0} (key : A → ℤ) (xs : List A) → Rises (less key) (by_key key xs)
rises-by_key key [] = tt
rises-by_key key (x ∷ xs) = rises-placed key x (by_key key xs) (rises-by_key key xs)

-- and keeps the ties in their order
not_both : {A : Type 0} (lt : A → A → Bool) → IsStrictWeakOrder lt → (a x y : A) → lt y x ≡ true → ties lt a x ≡ true → ties lt a y ≡ false
not_both lt o a x y less_y tied =
    elim (cases_Bool (lt a y)) [
      | inl h ↦ rw h refl
      | inr h ↦ elim (cases_Bool (lt y a)) [
        | inl g ↦ rw (h, g) refl
        | inr g ↦ absurd (let through : lt y x ≡ false = o.chain y a x g (first_of tied) in cc)
      ]
    ]
  where
    first_of : ties lt a x ≡ true → lt a x ≡ false
    first_of t = elim (cases_Bool (lt a x)) [ inl h ↦ absurd (let no : false ≡ true = rw h at t in cc) | inr h ↦ h ]

filter-cons : {A : Type 0} (p : A → Bool) (x : A) (ys zs : List A) → filter p ys ≡ filter p zs → filter p (x ∷ ys) ≡ filter p (x ∷ zs)
filter-cons p x ys zs h = ap (λ ws. cond (p x) (x ∷ ws) ws) h

filter-swap : {A : Type 0} (p : A → Bool) (x y : A) (zs ys : List A) → (p x ≡ true → p y ≡ false)
    → filter p zs ≡ filter p (x ∷ ys) → filter p (y ∷ zs) ≡ filter p (x ∷ y ∷ ys)
filter-swap p x y zs ys apart same =
    elim (cases_Bool (p x)) [
      | inl t ↦ (let no : p y ≡ false = apart t in
          let here : filter p zs ≡ x ∷ filter p ys = rw t at same in
          rw (no, t) here)
      | inr t ↦ (let here : filter p zs ≡ filter p ys = rw t at same in rw t (filter-cons p y zs ys here))
    ]

ties-placed : {A : Type 0} (key : A → ℤ) (a x : A) (ys : List A) → filter (ties (less key) a) (placed key x ys) ≡ filter (ties (less key) a) (x ∷ ys)
ties-placed key a x [] = refl
ties-placed key a x (y ∷ ys) =
    elim (cases_Bool (int_lt (key y) (key x))) [
      | inl h ↦ rw h (filter-swap (ties (less key) a) x y (placed key x ys) ys (λ t. not_both (less key) (less-order key) a x y (less_is key y x true h) t) (ties-placed key a x ys))
      | inr h ↦ rw h refl
    ]

ties-by_key : {A : Type 0} (key : A → ℤ) (a : A) (xs : List A) → filter (ties (less key) a) (by_key key xs) ≡ filter (ties (less key) a) xs
ties-by_key key a [] = refl
ties-by_key key a (x ∷ xs) = ties-placed key a x (by_key key xs) ∙ filter-cons (ties (less key) a) x (by_key key xs) xs (ties-by_key key a xs)

-- what the library's sort says, in these words
rises_from : {A : Type 0} (lt : A → A → Bool) → IsStrictWeakOrder lt → (xs : List A) → IsSortedBy lt xs → Rises lt xs
rises_from lt o [] up = tt
rises_from {A} lt o (x ∷ xs) up = (
  each_from (λ y. lt y x ≡ false) xs (λ k d h. sorted_far lt o (x ∷ xs) up 0 (suc k) d (omega arith) (omega arith)),
  rises_from lt o xs (λ k d h g. (let e : suc k + 1 ≡ suc (k + 1) = omega arith in rw e at (up (suc k) d (omega arith) (omega arith)))),
)
  where
    each_from : {B : Type 0} (P : B → Type 0) (ys : List B) → ((k : ℕ) (d : B) → k < length ys → P (get_or ys k d)) → Each P ys
    each_from P [] all = tt
    each_from P (y ∷ ys) all = (all 0 y (omega arith), each_from P ys (λ k d h. all (suc k) d (omega arith)))

pub by_key_is : {A : Type 0} (key : A → ℤ) (xs ys : List A) → IsSortedByKey key int_cmp ys → IsStableByKey key int_cmp xs ys → ys ≡ by_key key xs
by_key_is {A} key xs ys up stable =
    rises_unique (less key) (less-order key) ys (by_key key xs) (rises_from (less key) (less-order key) ys up) (rises-by_key key xs)
    (λ x. stable x ∙ sym (ties-by_key key x xs))

-- the same, where a closure gives the keys
pub by_key_from_sort : {A : Type 0} (key : A → ℤ) → {F : Type 0} {g : Mut F (Bor A × Unit {0}) ℤ} {f : F} (xs ys : List A)
    → ((k : A → ℤ) → ComputesKey g k f → IsSortedByKey k int_cmp ys)
    → ((k : A → ℤ) → ComputesKey g k f → IsStableByKey k int_cmp xs ys)
    → ((f : F) (a : Bor A × Unit {0}) (r : ℤ) (f' : F) → Called g f a r f' → r ≡ key a.0.now)
    → ys ≡ by_key key xs
by_key_from_sort {A} key {F} {g} {f} xs ys sorted stable gives =
    let computes : ComputesKey g key f = answers_always g (λ (a : Bor A × Unit {0}) (r : ℤ). r ≡ key a.0.now) f gives in
    by_key_is key xs ys (sorted key computes) (stable key computes)
