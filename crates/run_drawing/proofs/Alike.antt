-- Lists and options whose elements are alike, one by one.
use Rattle.std.proofs.Common.{◌≡◌, ◌++◌, ◌∷◌, [], ℕ, zero, suc, Bool, List, Option, Some, None, true, false, find, flat_map, inl, inr, refl, ap, sym, ◌∙◌, arith, length, slice_get, subst}
use Rattle.std.specs.Option.{option_to_list}
use Rattle.mpi_call.specs.Lists.{IsIn}
use Rattle.run_model.proofs.Views.{test_cases}
use Rattle.msg_races.specs.Listing.{lists_below}

-- elements at one place are alike
abbrev pub AreAlike : {A B : Type 0} → (A → B → Type 0) → List A → List B → Type 0
AreAlike Like [] [] = Unit {0}
AreAlike Like [] (y ∷ ys) = ⊥
AreAlike Like (x ∷ xs) [] = ⊥
AreAlike Like (x ∷ xs) (y ∷ ys) = Like x y × AreAlike Like xs ys

-- both are there and alike, or neither is there
abbrev pub IsAlike : {A B : Type 0} → (A → B → Type 0) → Option A → Option B → Type 0
IsAlike Like None None = Unit {0}
IsAlike Like None (Some y) = ⊥
IsAlike Like (Some x) None = ⊥
IsAlike Like (Some x) (Some y) = Like x y

pub alike_append : {A B : Type 0} (Like : A → B → Type 0) (xs xs' : List A) (ys ys' : List B) → AreAlike Like xs ys → AreAlike Like xs' ys' → AreAlike Like (xs ++ xs') (ys ++ ys')
alike_append Like [] xs' [] ys' one other = other
alike_append Like [] xs' (y ∷ ys) ys' one other = absurd one
alike_append Like (x ∷ xs) xs' [] ys' one other = absurd one
alike_append Like (x ∷ xs) xs' (y ∷ ys) ys' one other = (one.0, alike_append Like xs xs' ys ys' one.1 other)

pub alike_listed : (Like : ℕ → ℕ → Type 0) (o p : Option ℕ) → IsAlike Like o p → AreAlike Like (option_to_list o) (option_to_list p)
alike_listed Like None None is = tt
alike_listed Like None (Some y) is = absurd is
alike_listed Like (Some x) None is = absurd is
alike_listed Like (Some x) (Some y) is = (is, tt)

pub alike_more : {A B : Type 0} (Like More : A → B → Type 0) → ((x : A) (y : B) → Like x y → More x y) → (xs : List A) (ys : List B) → AreAlike Like xs ys → AreAlike More xs ys
alike_more Like More on [] [] are = tt
alike_more Like More on [] (y ∷ ys) are = absurd are
alike_more Like More on (x ∷ xs) [] are = absurd are
alike_more Like More on (x ∷ xs) (y ∷ ys) are = (on x y are.0, alike_more Like More on xs ys are.1)

-- lists of one length whose elements at each place are alike
pub alike_each : {A B : Type 0} (Like : A → B → Type 0) (xs : List A) (ys : List B) → length xs ≡ length ys
    → ((k : ℕ) (x : A) (y : B) → slice_get xs k ≡ Some x → slice_get ys k ≡ Some y → Like x y) → AreAlike Like xs ys
alike_each Like [] [] long each = tt
alike_each Like [] (y ∷ ys) long each = (let no : 0 ≡ suc (length ys) = long in absurd (omega (arith, no)))
alike_each Like (x ∷ xs) [] long each = (let no : suc (length xs) ≡ 0 = long in absurd (omega (arith, no)))
alike_each Like (x ∷ xs) (y ∷ ys) long each =
    let rest : suc (length xs) ≡ suc (length ys) = long in
    (each 0 x y refl refl, alike_each Like xs ys (omega (arith, rest)) (λ k a b. each (suc k) a b))

-- an element has its like
pub alike_in : {A B : Type 0} (Like : A → B → Type 0) (xs : List A) (ys : List B) (x : A) → AreAlike Like xs ys → IsIn x xs → (y : B) × IsIn y ys × Like x y
alike_in Like [] ys x are h = absurd h
alike_in Like (a ∷ xs) [] x are h = absurd are
alike_in Like (a ∷ xs) (b ∷ ys) x are h = elim h [
  | inl e ↦ (let L : _ → Type 0 = λ z. Like z b in (b, inl refl, subst L e are.0))
  | inr later ↦ (let rest = alike_in Like xs ys x are.1 later in (rest.0, inr rest.1, rest.2))
]

-- what two functions give for like elements is the same
pub same_flat : {A B C : Type 0} (Like : A → B → Type 0) (f : A → List C) (g : B → List C) → ((x : A) (y : B) → Like x y → f x ≡ g y) → (xs : List A) (ys : List B) → AreAlike Like xs ys
    → flat_map f xs ≡ flat_map g ys
same_flat Like f g same [] [] are = refl
same_flat Like f g same [] (y ∷ ys) are = absurd are
same_flat Like f g same (x ∷ xs) [] are = absurd are
same_flat Like f g same (x ∷ xs) (y ∷ ys) are =
    let first : f x ≡ g y = same x y are.0 in
    ap (λ l. l ++ flat_map f xs) first ∙ ap (λ l. g y ++ l) (same_flat Like f g same xs ys are.1)

pub same_joined : {A : Type 0} (f g : ℕ → List A) (n : ℕ) → ((rank : ℕ) → f rank ≡ g rank) → lists_below f n ≡ lists_below g n
same_joined f g zero same = refl
same_joined f g (suc n) same = ap (λ l. l ++ f n) (same_joined f g n same) ∙ ap (λ l. lists_below g n ++ l) (same n)

-- the first that passes
pub alike_find : {A B : Type 0} (Like : A → B → Type 0) (f : A → Bool) (g : B → Bool) → (xs : List A) (ys : List B)
    → ((x : A) (y : B) → IsIn x xs → Like x y → f x ≡ g y) → AreAlike Like xs ys → IsAlike Like (find f xs) (find g ys)
alike_find Like f g [] [] same are = tt
alike_find Like f g [] (y ∷ ys) same are = absurd are
alike_find Like f g (x ∷ xs) [] same are = absurd are
alike_find Like f g (x ∷ xs) (y ∷ ys) same are =
    let one : f x ≡ g y = same x y (inl refl) are.0 in
    elim (test_cases (f x)) [
      | inl t ↦ (let u : g y ≡ true = sym one ∙ t in rw (t, u) are.0)
      | inr t ↦ (let u : g y ≡ false = sym one ∙ t in rw (t, u) (alike_find Like f g xs ys (λ a b h. same a b (inr h)) are.1))
    ]

pub alike_some : {A B : Type 0} (Like : A → B → Type 0) (o : Option A) (p : Option B) (x : A) → IsAlike Like o p → o ≡ Some x → (y : B) × (p ≡ Some y) × Like x y
alike_some Like None p x is h = absurd (cc)
alike_some Like (Some a) None x is h = absurd is
alike_some Like (Some a) (Some b) x is h = (let same : a ≡ x = cc in let L : _ → Type 0 = λ z. Like z b in (b, refl, subst L same is))

-- what is found passes, and where one passes one is found
pub find_found : {A : Type 0} (test : A → Bool) (xs : List A) (x : A) → find test xs ≡ Some x → IsIn x xs × (test x ≡ true)
find_found test [] x h = absurd (cc)
find_found test (a ∷ xs) x h = elim (test_cases (test a)) [
  | inl t ↦ (
      let some : Some a ≡ Some x = rw t at h in
      let same : a ≡ x = cc in
      (inl same, ap test (sym same) ∙ t))
  | inr t ↦ (let rest = find_found test xs x (rw t at h) in (inr rest.0, rest.1))
]

pub find_some : {A : Type 0} (test : A → Bool) (xs : List A) (x : A) → IsIn x xs → test x ≡ true → (y : A) × (find test xs ≡ Some y)
find_some test [] x h passes = absurd h
find_some test (a ∷ xs) x h passes = elim (test_cases (test a)) [
  | inl t ↦ (a, rw t refl)
  | inr t ↦ elim h [
    | inl e ↦ (let no : false ≡ true = sym t ∙ (ap test e ∙ passes) in absurd (cc))
    | inr later ↦ (let rest = find_some test xs x later passes in (rest.0, rw t rest.1))
  ]
]

-- where each that passes has its like, and but one passes, those found are alike
pub alike_found : {A B : Type 0} (Like : A → B → Type 0) (f : A → Bool) (g : B → Bool) (xs : List A) (ys : List B) (o : Option A) (p : Option B)
    → ((x : A) → IsIn x xs → f x ≡ true → (y : B) × IsIn y ys × (g y ≡ true) × Like x y)
    → ((y : B) → IsIn y ys → g y ≡ true → (x : A) × IsIn x xs × (f x ≡ true))
    → ((y z : B) → IsIn y ys → IsIn z ys → g y ≡ true → g z ≡ true → y ≡ z)
    → find f xs ≡ o → find g ys ≡ p → IsAlike Like o p
alike_found Like f g xs ys None None over back only here there = tt
alike_found Like f g xs ys None (Some y) over back only here there =
    let found = find_found g ys y there in
    let source = back y found.0 found.1 in
    let some = find_some f xs source.0 source.1 source.2 in
    let no : None ≡ Some some.0 = sym here ∙ some.1 in
    absurd (cc)
alike_found Like f g xs ys (Some x) None over back only here there =
    let found = find_found f xs x here in
    let like = over x found.0 found.1 in
    let some = find_some g ys like.0 like.1 like.2 in
    let no : None ≡ Some some.0 = sym there ∙ some.1 in
    absurd (cc)
alike_found Like f g xs ys (Some x) (Some y) over back only here there =
    let found = find_found f xs x here in
    let like = over x found.0 found.1 in
    let second = find_found g ys y there in
    let same = only like.0 y like.1 second.0 like.2 second.1 in
    let L : _ → Type 0 = λ z. Like x z in
    subst L same like.3
