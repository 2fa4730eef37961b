-- Communicators by their origins: what is listed keeps its number, and two of one number have one origin.
use Rattle.std.proofs.Common.{◌≡◌, ◌+◌, ◌&&◌, ◌||◌, ◌++◌, ◌<◌, ◌==◌, ◌∙◌, ◌∷◌, ◌⊎◌, Bool, List, Ok, [], ap, arith, false, filter, get_or, inl, inr, length, map, not, refl, subst, suc, sym, true, zero, ℕ, ℤ}
use Rattle.std.proofs.lemmas.Bool.{and_parts, eq-eqb, eqb-true, or_cases, or_left, or_right}
use Rattle.std.proofs.lemmas.Bool.Decides.{Decides-int_eq}
use Rattle.std.specs.List.{dedup, dedup_from, list_any, position_or_len}
use Rattle.std.specs.Ordering.{int_eq}
use Rattle.std.specs.Prelude.{int_lt}
use Rattle.mpi_call.specs.declared.call.Call.{Call}
use Rattle.mpi_call.specs.declared.call.Call.TheVariants.{Enter}
use Rattle.mpi_call.specs.declared.call.Kind.TheVariants.{Dup, Split}
use Rattle.mpi_call.specs.Calls.{comm_of, ints_of, makes}
use Rattle.mpi_call.specs.Collectives.{agree, colour_of, is_uncoloured}
use Rattle.mpi_call.specs.Made.{by_key, placed}
use Rattle.mpi_call.specs.Needs.{colour_in, undefined_colour}
use Rattle.mpi_call.proofs.MadeLemmas.{int_eq-itself}
use Rattle.run_model.specs.Numbers.{Origin, colours_entered, number_among, origins_from, same_colour, same_origin}
use Rattle.run_model.proofs.Views.{test_cases}

int_eq-is : (x y : ℤ) → int_eq x y ≡ true → x ≡ y
int_eq-is x y h = (Decides-int_eq x y).0 h

same_colour-is : (a b : List ℤ) → same_colour a b ≡ true → a ≡ b
same_colour-is [] [] h = refl
same_colour-is [] (y ∷ ys) h = absurd (cc)
same_colour-is (x ∷ xs) [] h = absurd (cc)
same_colour-is (x ∷ xs) (y ∷ ys) h =
    let parts = and_parts (int_eq x y) (same_colour xs ys) h in
    ap (λ z. z ∷ xs) (int_eq-is x y parts.0) ∙ ap (λ l. y ∷ l) (same_colour-is xs ys parts.1)

same_colour-refl : (a : List ℤ) → same_colour a a ≡ true
same_colour-refl [] = refl
same_colour-refl (x ∷ xs) = rw (int_eq-itself x, same_colour-refl xs)

same_origin-is : (a b : Origin) → same_origin a b ≡ true → a ≡ b
same_origin-is a b h =
    let one = and_parts (a.comm == b.comm) ((a.instance == b.instance) && same_colour a.colour b.colour) h in
    let two = and_parts (a.instance == b.instance) (same_colour a.colour b.colour) one.1 in
    let mk : ℕ → ℕ → List ℤ → Origin = λ c i l. record { comm = c; instance = i; colour = l } in
    ap (λ c. mk c a.instance a.colour) (eqb-true a.comm b.comm one.0)
    ∙ (ap (λ i. mk b.comm i a.colour) (eqb-true a.instance b.instance two.0)
    ∙ ap (λ l. mk b.comm b.instance l) (same_colour-is a.colour b.colour two.1))

same_origin-refl : (a : Origin) → same_origin a a ≡ true
same_origin-refl a = rw (eq-eqb a.comm a.comm refl, eq-eqb a.instance a.instance refl, same_colour-refl a.colour)

abbrev pub IsListed : List Origin → Origin → Type 0
IsListed made origin = list_any (λ other. same_origin other origin) made ≡ true

any_front : {A : Type 0} (f : A → Bool) (xs ys : List A) → list_any f xs ≡ true → list_any f (xs ++ ys) ≡ true
any_front f [] ys h = absurd (cc)
any_front f (x ∷ xs) ys h =
    elim (or_cases (f x) (list_any f xs) h) [
      | inl t ↦ or_left (f x) (list_any f (xs ++ ys)) t
      | inr t ↦ or_right (f x) (list_any f (xs ++ ys)) (any_front f xs ys t)
    ]

any_back : {A : Type 0} (f : A → Bool) (xs ys : List A) → list_any f ys ≡ true → list_any f (xs ++ ys) ≡ true
any_back f [] ys h = h
any_back f (x ∷ xs) ys h = or_right (f x) (list_any f (xs ++ ys)) (any_back f xs ys h)

pub listed_front : (xs ys : List Origin) (o : Origin) → IsListed xs o → IsListed (xs ++ ys) o
listed_front xs ys o h = any_front (λ other. same_origin other o) xs ys h

pub listed_back : (xs ys : List Origin) (o : Origin) → IsListed ys o → IsListed (xs ++ ys) o
listed_back xs ys o h = any_back (λ other. same_origin other o) xs ys h

place_kept : (made more : List Origin) (a : Origin) → IsListed made a
    → position_or_len (λ other. same_origin other a) (made ++ more) ≡ position_or_len (λ other. same_origin other a) made
place_kept [] more a h = absurd (cc)
place_kept (x ∷ made) more a h =
    elim (test_cases (same_origin x a)) [
      | inl t ↦ rw t
      | inr t ↦ (let rest : IsListed made a = rw t at h in rw (t, place_kept made more a rest))
    ]

pub number_kept : (made more : List Origin) (a : Origin) → IsListed made a → number_among (made ++ more) a ≡ number_among made a
number_kept made more a h = ap suc (place_kept made more a h)

place_one : (made : List Origin) (a b : Origin) → IsListed made a → IsListed made b
    → position_or_len (λ other. same_origin other a) made ≡ position_or_len (λ other. same_origin other b) made → a ≡ b
place_one [] a b h g e = absurd (cc)
place_one (x ∷ made) a b h g e =
    elim (test_cases (same_origin x a)) [
      | inl t ↦ elim (test_cases (same_origin x b)) [
        | inl u ↦ sym (same_origin-is x a t) ∙ same_origin-is x b u
        | inr u ↦ (let bad : 0 ≡ 1 + position_or_len (λ other. same_origin other b) made = rw (t, u) at e in absurd (omega arith))
      ]
      | inr t ↦ elim (test_cases (same_origin x b)) [
        | inl u ↦ (let bad : 1 + position_or_len (λ other. same_origin other a) made ≡ 0 = rw (t, u) at e in absurd (omega arith))
        | inr u ↦ (
            let both : 1 + position_or_len (λ other. same_origin other a) made ≡ 1 + position_or_len (λ other. same_origin other b) made = rw (t, u) at e in
            place_one made a b (rw t at h) (rw u at g) (omega arith))
      ]
    ]

pub number_one : (made : List Origin) (a b : Origin) → IsListed made a → IsListed made b → number_among made a ≡ number_among made b → a ≡ b
number_one made a b h g e = place_one made a b h g (omega arith)

-- a defined colour that was entered is among those of the new communicators
abbrev has_colour : ℤ → List ℤ → Bool
has_colour colour xs = list_any (λ x. int_eq x colour) xs

entered_colour : (colour : ℤ) (inputs : List (List ℤ)) (place : ℕ) → place < length inputs → colour_in (get_or inputs place []) ≡ colour
    → has_colour colour (map colour_in inputs) ≡ true
entered_colour colour [] place below h = absurd (omega arith)
entered_colour colour (ints ∷ inputs) zero below h =
    let F : ℤ → Type 0 = λ z. int_eq (colour_in ints) z ≡ true in
    or_left (int_eq (colour_in ints) colour) (has_colour colour (map colour_in inputs)) (subst F h (int_eq-itself (colour_in ints)))
entered_colour colour (ints ∷ inputs) (suc place) below h =
    or_right (int_eq (colour_in ints) colour) (has_colour colour (map colour_in inputs)) (entered_colour colour inputs place (omega arith) h)

kept_colour : (colour : ℤ) (xs : List ℤ) → int_eq colour undefined_colour ≡ false → has_colour colour xs ≡ true
    → has_colour colour (filter (λ x. not (int_eq x undefined_colour)) xs) ≡ true
kept_colour colour [] defined h = absurd (cc)
kept_colour colour (x ∷ xs) defined h =
    let rest : List ℤ = filter (λ x. not (int_eq x undefined_colour)) xs in
    elim (or_cases (int_eq x colour) (has_colour colour xs) h) [
      | inl t ↦ (
          let F : ℤ → Type 0 = λ z. int_eq z undefined_colour ≡ false in
          let here : int_eq x undefined_colour ≡ false = subst F (sym (int_eq-is x colour t)) defined in
          rw here (or_left (int_eq x colour) (has_colour colour rest) t))
      | inr t ↦ elim (test_cases (int_eq x undefined_colour)) [
        | inl u ↦ rw u (kept_colour colour xs defined t)
        | inr u ↦ rw u (or_right (int_eq x colour) (has_colour colour rest) (kept_colour colour xs defined t))
      ]
    ]

any_placed : (f : ℤ → Bool) (x : ℤ) (xs : List ℤ) → (f x ≡ true) ⊎ (list_any f xs ≡ true) → list_any f (placed (λ z. z) x xs) ≡ true
any_placed f x [] h = elim h [ inl t ↦ or_left (f x) false t | inr t ↦ absurd (cc) ]
any_placed f x (y ∷ ys) h =
    elim (test_cases (int_lt y x)) [
      | inl u ↦ rw u (elim h [
        | inl t ↦ or_right (f y) (list_any f (placed (λ z. z) x ys)) (any_placed f x ys (inl t))
        | inr t ↦ elim (or_cases (f y) (list_any f ys) t) [
          | inl here ↦ or_left (f y) (list_any f (placed (λ z. z) x ys)) here
          | inr later ↦ or_right (f y) (list_any f (placed (λ z. z) x ys)) (any_placed f x ys (inr later))
        ]
      ])
      | inr u ↦ rw u (elim h [
        | inl t ↦ or_left (f x) (f y || list_any f ys) t
        | inr t ↦ or_right (f x) (f y || list_any f ys) t
      ])
    ]

any_by_key : (f : ℤ → Bool) (xs : List ℤ) → list_any f xs ≡ true → list_any f (by_key (λ z. z) xs) ≡ true
any_by_key f [] h = absurd (cc)
any_by_key f (x ∷ xs) h =
    elim (or_cases (f x) (list_any f xs) h) [
      | inl t ↦ any_placed f x (by_key (λ z. z) xs) (inl t)
      | inr t ↦ any_placed f x (by_key (λ z. z) xs) (inr (any_by_key f xs t))
    ]

any_dedup_from : (f : ℤ → Bool) (k : ℤ) (xs : List ℤ) → list_any f (k ∷ xs) ≡ true → list_any f (dedup_from int_eq k xs) ≡ true
any_dedup_from f k [] h = h
any_dedup_from f k (x ∷ xs) h =
    elim (test_cases (int_eq x k)) [
      | inl u ↦ (
          let same : f x ≡ f k = ap f (int_eq-is x k u) in
          rw u (any_dedup_from f k xs (elim (or_cases (f k) (f x || list_any f xs) h) [
            | inl t ↦ or_left (f k) (list_any f xs) t
            | inr t ↦ elim (or_cases (f x) (list_any f xs) t) [
              | inl here ↦ or_left (f k) (list_any f xs) (sym same ∙ here)
              | inr later ↦ or_right (f k) (list_any f xs) later
            ]
          ])))
      | inr u ↦ rw u (elim (or_cases (f k) (f x || list_any f xs) h) [
        | inl t ↦ or_left (f k) (list_any f (dedup_from int_eq x xs)) t
        | inr t ↦ or_right (f k) (list_any f (dedup_from int_eq x xs)) (any_dedup_from f x xs t)
      ])
    ]

any_dedup : (f : ℤ → Bool) (xs : List ℤ) → list_any f xs ≡ true → list_any f (dedup int_eq xs) ≡ true
any_dedup f [] h = absurd (cc)
any_dedup f (x ∷ xs) h = any_dedup_from f x xs h

colour_listed : (comm instance : ℕ) (colour : ℤ) (xs : List ℤ) → has_colour colour xs ≡ true
    → IsListed (map (λ c. record { comm = comm; instance = instance; colour = c }) (map (λ z. z ∷ []) xs)) (record { comm = comm; instance = instance; colour = colour ∷ [] })
colour_listed comm instance colour [] h = absurd (cc)
colour_listed comm instance colour (x ∷ xs) h =
    let o : Origin = record { comm = comm; instance = instance; colour = colour ∷ [] } in
    let first : Origin = record { comm = comm; instance = instance; colour = x ∷ [] } in
    let rest : List Origin = map (λ c. record { comm = comm; instance = instance; colour = c }) (map (λ z. z ∷ []) xs) in
    elim (or_cases (int_eq x colour) (has_colour colour xs) h) [
      | inl t ↦ or_left (same_origin first o) (list_any (λ other. same_origin other o) rest) (rw (eq-eqb comm comm refl, eq-eqb instance instance refl, t) refl)
      | inr t ↦ or_right (same_origin first o) (list_any (λ other. same_origin other o) rest) (colour_listed comm instance colour xs t)
    ]

-- the last member's Enter lists the origin of each coloured member's
pub made_listed : (a b : Call) (instance place : ℕ) (inputs : List (List ℤ)) → agree a b ≡ true → makes b ≡ true → is_uncoloured b ≡ false
    → place < length inputs → get_or inputs place [] ≡ ints_of b
    → IsListed (origins_from (Ok inputs) instance a) (record { comm = comm_of a; instance = instance; colour = colour_of b })
made_listed (Enter comm Split root op count ints) (Enter comm' Split root' op' count' (colour ∷ ints')) instance place inputs same makes_is defined below at =
    let one = entered_colour colour inputs place below (ap colour_in at) in
    let two = kept_colour colour (map colour_in inputs) defined one in
    let f : ℤ → Bool = λ x. int_eq x colour in
    let three = any_by_key f (filter (λ x. not (int_eq x undefined_colour)) (map colour_in inputs)) two in
    let four = any_dedup f (by_key (λ z. z) (filter (λ x. not (int_eq x undefined_colour)) (map colour_in inputs))) three in
    colour_listed comm instance colour (colours_entered inputs) four
made_listed (Enter comm Split root op count ints) (Enter comm' Split root' op' count' []) instance place inputs same makes_is defined below at =
    absurd (let no : true ≡ false = sym (int_eq-itself undefined_colour) ∙ defined in cc)
made_listed (Enter comm Dup root op count ints) (Enter comm' Dup root' op' count' ints') instance place inputs same makes_is defined below at =
    let o : Origin = record { comm = comm; instance = instance; colour = [] } in
    or_left (same_origin o o) false (same_origin-refl o)
made_listed (Enter comm Split root op count ints) b instance place inputs same makes_is defined below at = absurd (cc)
made_listed (Enter comm Dup root op count ints) b instance place inputs same makes_is defined below at = absurd (cc)
made_listed a (Enter comm Split root op count ints) instance place inputs same makes_is defined below at = absurd (cc)
made_listed a (Enter comm Dup root op count ints) instance place inputs same makes_is defined below at = absurd (cc)
made_listed a b instance place inputs same makes_is defined below at = absurd (cc)
