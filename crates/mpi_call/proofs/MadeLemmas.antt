-- Laws of the members that a Split or Dup makes.
use Rattle.std.proofs.Common.{◌≡◌, ℕ, zero, suc, ◌+◌, ◌<◌, ℤ, List, [], ◌∷◌, length, map, get_or, Bool, true, false, cond, ◌||◌, refl, sym, inl, inr, ap, ap₂, ◌∙◌, arith, Option}
use Rattle.std.proofs.lemmas.Bool.{cases_Bool}
use Rattle.std.proofs.lemmas.Bool.Decides.{Decides-int_eq}
use Rattle.std.specs.List.{list_any, filter, zip}
use Rattle.std.specs.Ordering.{int_eq}
use Rattle.std.specs.Prelude.{◌==◌, int_lt}
use Rattle.mpi_call.proofs.NeedsLemmas.{eqb-sym}
use Rattle.mpi_call.specs.Calls.{ints_of, makes}
use Rattle.mpi_call.specs.Made.{by_key, key_in, members_made, of_colour, placed, split_into}
use Rattle.mpi_call.specs.Members.{is_distinct, is_member, place_of}
use Rattle.mpi_call.specs.Needs.{agree, colour_in, colour_of, is_uncoloured, undefined_colour}
use Rattle.mpi_call.specs.Results.{input_of}
use Rattle.mpi_call.specs.declared.call.Call.{Call}
use Rattle.mpi_call.specs.declared.call.Call.TheVariants.{Enter}
use Rattle.mpi_call.specs.declared.call.Op.{Op}
use Rattle.mpi_call.specs.declared.call.Kind.TheVariants.{Split, Dup}

or-swap : (a b c : Bool) → (a || (b || c)) ≡ (b || (a || c))
or-swap true true c = refl
or-swap true false c = refl
or-swap false true c = refl
or-swap false false c = refl

-- a sort keeps the elements
list_any-placed : {A : Type 0} (p : A → Bool) (key : A → ℤ) (x : A) (ys : List A) → list_any p (placed key x ys) ≡ (p x || list_any p ys)
list_any-placed p key x [] = refl
list_any-placed p key x (y ∷ ys) =
    elim (cases_Bool (int_lt (key y) (key x))) [
      | inl h ↦ rw h (ap (λ b. p y || b) (list_any-placed p key x ys) ∙ or-swap (p y) (p x) (list_any p ys))
      | inr h ↦ rw h refl
    ]

list_any-by_key : {A : Type 0} (p : A → Bool) (key : A → ℤ) (xs : List A) → list_any p (by_key key xs) ≡ list_any p xs
list_any-by_key p key [] = refl
list_any-by_key p key (x ∷ xs) = list_any-placed p key x (by_key key xs) ∙ ap (λ b. p x || b) (list_any-by_key p key xs)

list_any-map : {A B : Type 0} (p : B → Bool) (f : A → B) (xs : List A) → list_any p (map f xs) ≡ list_any (λ x. p (f x)) xs
list_any-map p f [] = refl
list_any-map p f (x ∷ xs) = ap (λ b. p (f x) || b) (list_any-map p f xs)

-- the ranks of a sorted list
is_member-by_key : {A : Type 0} (f : A → ℕ) (key : A → ℤ) (xs : List A) (rank : ℕ) → is_member (map f (by_key key xs)) rank ≡ is_member (map f xs) rank
is_member-by_key f key xs rank =
    list_any-map (λ member. member == rank) f (by_key key xs)
    ∙ (list_any-by_key (λ x. f x == rank) key xs ∙ sym (list_any-map (λ member. member == rank) f xs))

is_member-placed : {A : Type 0} (f : A → ℕ) (key : A → ℤ) (x : A) (ys : List A) (rank : ℕ) → is_member (map f (placed key x ys)) rank ≡ (f x == rank || is_member (map f ys) rank)
is_member-placed f key x ys rank =
    list_any-map (λ member. member == rank) f (placed key x ys)
    ∙ (list_any-placed (λ y. f y == rank) key x ys ∙ ap (λ b. f x == rank || b) (sym (list_any-map (λ member. member == rank) f ys)))

-- distinct elements in any order
conds-swap : (same a b rest : Bool) → cond (same || a) false (cond b false rest) ≡ cond (same || b) false (cond a false rest)
conds-swap true a b rest = refl
conds-swap false true true rest = refl
conds-swap false true false rest = refl
conds-swap false false true rest = refl
conds-swap false false false rest = refl

is_distinct-placed : {A : Type 0} (f : A → ℕ) (key : A → ℤ) (x : A) (ys : List A) → is_distinct (map f (placed key x ys)) ≡ is_distinct (f x ∷ map f ys)
is_distinct-placed f key x [] = refl
is_distinct-placed f key x (y ∷ ys) =
    elim (cases_Bool (int_lt (key y) (key x))) [
      | inl h ↦ rw h
          (ap₂ (λ there rest. cond there false rest) (is_member-placed f key x ys (f y)) (is_distinct-placed f key x ys)
          ∙ (conds-swap (f x == f y) (is_member (map f ys) (f y)) (is_member (map f ys) (f x)) (is_distinct (map f ys))
          ∙ ap (λ same. cond (same || is_member (map f ys) (f x)) false (cond (is_member (map f ys) (f y)) false (is_distinct (map f ys)))) (eqb-sym (f x) (f y))))
      | inr h ↦ rw h refl
    ]

is_distinct-by_key : {A : Type 0} (f : A → ℕ) (key : A → ℤ) (xs : List A) → is_distinct (map f (by_key key xs)) ≡ is_distinct (map f xs)
is_distinct-by_key f key [] = refl
is_distinct-by_key f key (x ∷ xs) =
    is_distinct-placed f key x (by_key key xs)
    ∙ ap₂ (λ there rest. cond there false rest) (is_member-by_key f key xs (f x)) (is_distinct-by_key f key xs)

-- a part of the members: those in it are members, and distinct
in_part : (p : ℕ × List ℤ → Bool) (members : List ℕ) (inputs : List (List ℤ)) (rank : ℕ)
    → is_member (map (λ (entry : ℕ × List ℤ). entry.0) (filter p (zip members inputs))) rank ≡ true → is_member members rank ≡ true
in_part p [] inputs rank h = h
in_part p (m ∷ members) [] rank h = absurd (cc)
in_part p (m ∷ members) (ints ∷ inputs) rank h =
    elim (cases_Bool (m == rank)) [
      | inl same ↦ rw same refl
      | inr other ↦ rw other (elim (cases_Bool (p (m, ints))) [
        | inl g ↦ in_part p members inputs rank (rw (g, other) at h)
        | inr g ↦ in_part p members inputs rank (rw g at h)
      ])
    ]

if_cond : (there rest : Bool) → cond there false rest ≡ true → (there ≡ false) × (rest ≡ true)
if_cond true rest h = absurd (cc)
if_cond false rest h = (refl, h)

distinct_part : (p : ℕ × List ℤ → Bool) (members : List ℕ) (inputs : List (List ℤ)) → is_distinct members ≡ true
    → is_distinct (map (λ (entry : ℕ × List ℤ). entry.0) (filter p (zip members inputs))) ≡ true
distinct_part p [] inputs h = refl
distinct_part p (m ∷ members) [] h = refl
distinct_part p (m ∷ members) (ints ∷ inputs) h =
    let parts : (is_member members m ≡ false) × (is_distinct members ≡ true) = if_cond (is_member members m) (is_distinct members) h in
    elim (cases_Bool (p (m, ints))) [
      | inl g ↦ rw g (elim (cases_Bool (is_member (map (λ (entry : ℕ × List ℤ). entry.0) (filter p (zip members inputs))) m)) [
        | inl there ↦ absurd (let old : is_member members m ≡ true = in_part p members inputs m there in let new : is_member members m ≡ false = parts.0 in cc)
        | inr away ↦ rw away (distinct_part p members inputs parts.1)
      ])
      | inr g ↦ rw g (distinct_part p members inputs parts.1)
    ]

-- a member whose ints pass the test is in the part
among_part : (q : List ℤ → Bool) (members : List ℕ) (inputs : List (List ℤ)) (me : ℕ) → is_member members me ≡ true
    → place_of members me < length inputs → q (get_or inputs (place_of members me) []) ≡ true
    → is_member (map (λ (entry : ℕ × List ℤ). entry.0) (filter (λ entry. q entry.1) (zip members inputs))) me ≡ true
among_part q [] inputs me member within h = absurd (cc)
among_part q (m ∷ members) [] me member within h = absurd (omega arith)
among_part q (m ∷ members) (ints ∷ inputs) me member within h =
    elim (cases_Bool (m == me)) [
      | inl same ↦ (let here : q ints ≡ true = rw same at h in rw (here, same) refl)
      | inr other ↦
          let deeper_member : is_member members me ≡ true = rw other at member in
          let place : place_of (m ∷ members) me ≡ 1 + place_of members me = rw other refl in
          let deeper_within : place_of members me < length inputs = omega arith in
          let one_more : 1 + place_of members me ≡ suc (place_of members me) = omega arith in
          let deeper : q (get_or inputs (place_of members me) []) ≡ true = rw (other, one_more) at h in
          let found : is_member (map (λ (entry : ℕ × List ℤ). entry.0) (filter (λ entry. q entry.1) (zip members inputs))) me ≡ true = among_part q members inputs me deeper_member deeper_within deeper in
          elim (cases_Bool (q ints)) [ inl g ↦ rw (g, other) found | inr g ↦ rw g found ]
    ]

-- the members are among the old ones
pub members_made-subset : (call : Call) (members : List ℕ) (inputs : List (List ℤ)) (me rank : ℕ)
    → is_member (members_made call members inputs me) rank ≡ true → is_member members rank ≡ true
members_made-subset (Enter comm Dup root op count ints) members inputs me rank h = h
members_made-subset (Enter comm Split root op count ints) members inputs me rank h =
    elim (cases_Bool (int_eq (colour_in ints) undefined_colour)) [
      | inl none ↦ absurd (let no : false ≡ true = rw none at h in cc)
      | inr some ↦
          let made : is_member (split_into (colour_in ints) members inputs) rank ≡ true = rw some at h in
          in_part (λ entry. int_eq (colour_in entry.1) (colour_in ints)) members inputs rank
          (sym (is_member-by_key (λ (entry : ℕ × List ℤ). entry.0) (λ entry. key_in entry.1) (of_colour (colour_in ints) (zip members inputs)) rank) ∙ made)
    ]
members_made-subset call members inputs me rank h = absurd (cc)

-- and distinct where those are
pub members_made-distinct : (call : Call) (members : List ℕ) (inputs : List (List ℤ)) (me : ℕ)
    → is_distinct members ≡ true → is_distinct (members_made call members inputs me) ≡ true
members_made-distinct (Enter comm Dup root op count ints) members inputs me h = h
members_made-distinct (Enter comm Split root op count ints) members inputs me h =
    elim (cases_Bool (int_eq (colour_in ints) undefined_colour)) [
      | inl none ↦ rw none refl
      | inr some ↦ rw some
          (is_distinct-by_key (λ (entry : ℕ × List ℤ). entry.0) (λ entry. key_in entry.1) (of_colour (colour_in ints) (zip members inputs))
          ∙ distinct_part (λ entry. int_eq (colour_in entry.1) (colour_in ints)) members inputs h)
    ]
members_made-distinct call members inputs me h = refl

pub int_eq-itself : (z : ℤ) → int_eq z z ≡ true
int_eq-itself z = (Decides-int_eq z z).1 refl

-- a coloured member's ints stand in the list, so its place is within it
entered_within : (inputs : List (List ℤ)) (place : ℕ) (colour : ℤ) → int_eq colour undefined_colour ≡ false → colour_in (get_or inputs place []) ≡ colour → place < length inputs
entered_within [] place colour h g = absurd (let same : int_eq colour undefined_colour ≡ true = rw (← g) (int_eq-itself undefined_colour) in cc)
entered_within (ints ∷ inputs) zero colour h g = omega arith
entered_within (ints ∷ inputs) (suc place) colour h g = let deeper : place < length inputs = entered_within inputs place colour h g in omega arith

-- a coloured rank is among them, where the inputs have what it entered
pub members_made-me : (call : Call) (members : List ℕ) (inputs : List (List ℤ)) (me : ℕ) → makes call ≡ true → is_uncoloured call ≡ false
    → is_member members me ≡ true → input_of members inputs me ≡ ints_of call → is_member (members_made call members inputs me) me ≡ true
members_made-me (Enter comm Dup root op count ints) members inputs me made coloured member own = member
members_made-me (Enter comm Split root op count ints) members inputs me made coloured member own =
    rw coloured
    (is_member-by_key (λ (entry : ℕ × List ℤ). entry.0) (λ entry. key_in entry.1) (of_colour (colour_in ints) (zip members inputs)) me
    ∙ among_part (λ entered. int_eq (colour_in entered) (colour_in ints)) members inputs me member
    (entered_within inputs (place_of members me) (colour_in ints) coloured (ap colour_in own))
    (ap (λ entered. int_eq (colour_in entered) (colour_in ints)) own ∙ int_eq-itself (colour_in ints)))
members_made-me call members inputs me made coloured member own = absurd (cc)

same_colour : (ints ints' : List ℤ) (comm comm' count count' : ℕ) (root root' : Option ℕ) (op op' : Option Op)
    → colour_of (Enter comm Split root op count ints) ≡ colour_of (Enter comm' Split root' op' count' ints') → colour_in ints ≡ colour_in ints'
same_colour [] [] comm comm' count count' root root' op op' g = refl
same_colour [] (c' ∷ ints') comm comm' count count' root root' op op' g = absurd (cc)
same_colour (c ∷ ints) [] comm comm' count count' root root' op op' g = absurd (cc)
same_colour (c ∷ ints) (c' ∷ ints') comm comm' count count' root root' op op' g = cc

-- ranks of one instance and colour get the same members
pub members_made-same : (a b : Call) (members : List ℕ) (inputs : List (List ℤ)) (me you : ℕ) → agree a b ≡ true → colour_of a ≡ colour_of b
    → members_made a members inputs me ≡ members_made b members inputs you
members_made-same (Enter comm Dup root op count ints) (Enter comm' Dup root' op' count' ints') members inputs me you h g = refl
members_made-same (Enter comm Split root op count ints) (Enter comm' Split root' op' count' ints') members inputs me you h g =
    ap (λ colour. cond (int_eq colour undefined_colour) [] (split_into colour members inputs))
    (same_colour ints ints' comm comm' count count' root root' op op' g)
members_made-same (Enter comm Dup root op count ints) b members inputs me you h g = absurd (cc)
members_made-same (Enter comm Split root op count ints) b members inputs me you h g = absurd (cc)
members_made-same a (Enter comm Dup root op count ints) members inputs me you h g = absurd (cc)
members_made-same a (Enter comm Split root op count ints) members inputs me you h g = absurd (cc)
members_made-same a b members inputs me you h g = refl
