-- Laws of the numbers that a Split gives: a colour that was entered has a number of its own, behind which its members stand.
use Rattle.std.proofs.Common.{◌≡◌, ℕ, zero, suc, ◌+◌, ◌<◌, ℤ, List, [], ◌∷◌, ◌++◌, length, get_or, map, Bool, true, false, not, ◌||◌, refl, sym, inl, inr, ap, ◌∙◌, arith}
use Rattle.std.proofs.lemmas.Bool.{cases_Bool, lt-ltb}
use Rattle.std.proofs.lemmas.Bool.Decides.{Decides-int_eq}
use Rattle.std.proofs.lemmas.List.{get_or-map}
use Rattle.std.specs.List.{dedup, dedup_from, filter, list_any}
use Rattle.std.specs.Ordering.{int_eq}
use Rattle.std.specs.Prelude.{int_lt}
use Rattle.mpi_call.specs.Made.{by_key, placed, split_into}
use Rattle.mpi_call.specs.Needs.{colour_in, undefined_colour}
use Rattle.comms.proofs.ColourLemmas.{hit}
use Rattle.comms.specs.Colours.{colours_of, colour_number, place_among, split_members}

or-swap : (a b c : Bool) → (a || (b || c)) ≡ (b || (a || c))
or-swap true true c = refl
or-swap true false c = refl
or-swap false true c = refl
or-swap false false c = refl

any-placed : (p : ℤ → Bool) (x : ℤ) (ys : List ℤ) → list_any p (placed (λ y. y) x ys) ≡ (p x || list_any p ys)
any-placed p x [] = refl
any-placed p x (y ∷ ys) =
    elim (cases_Bool (int_lt y x)) [
      | inl h ↦ rw h (ap (λ b. p y || b) (any-placed p x ys) ∙ or-swap (p y) (p x) (list_any p ys))
      | inr h ↦ rw h refl
    ]

any-by_key : (p : ℤ → Bool) (xs : List ℤ) → list_any p (by_key (λ y. y) xs) ≡ list_any p xs
any-by_key p [] = refl
any-by_key p (x ∷ xs) = any-placed p x (by_key (λ y. y) xs) ∙ ap (λ b. p x || b) (any-by_key p xs)

or-itself : (a b : Bool) → (a || (a || b)) ≡ (a || b)
or-itself true b = refl
or-itself false b = refl

-- a repeated colour is there still
any-dedup_from : (p : ℤ → Bool) (k : ℤ) (xs : List ℤ) → list_any p (dedup_from int_eq k xs) ≡ (p k || list_any p xs)
any-dedup_from p k [] = refl
any-dedup_from p k (x ∷ xs) =
    elim (cases_Bool (int_eq x k)) [
      | inl same ↦
          let is : x ≡ k = (Decides-int_eq x k).0 same in
          rw same (any-dedup_from p k xs ∙ (sym (or-itself (p k) (list_any p xs)) ∙ ap (λ y. p k || (p y || list_any p xs)) (sym is)))
      | inr other ↦ rw other (ap (λ b. p k || b) (any-dedup_from p x xs))
    ]

any-dedup : (p : ℤ → Bool) (xs : List ℤ) → list_any p (dedup int_eq xs) ≡ list_any p xs
any-dedup p [] = refl
any-dedup p (x ∷ xs) = any-dedup_from p x xs

any-defined : (colour : ℤ) (inputs : List (List ℤ)) (place : ℕ) → place < length inputs → colour ≡ colour_in (get_or inputs place []) → int_eq colour undefined_colour ≡ false
    → list_any (λ other. int_eq other colour) (filter (λ other. not (int_eq other undefined_colour)) (map colour_in inputs)) ≡ true
any-defined colour [] place within is defined = absurd (omega arith)
any-defined colour (ints ∷ inputs) zero within is defined =
    let test : int_eq (colour_in ints) undefined_colour ≡ false = ap (λ c. int_eq c undefined_colour) (sym is) ∙ defined in
    let here : int_eq (colour_in ints) colour ≡ true = (Decides-int_eq (colour_in ints) colour).1 (sym is) in
    rw (test, here) refl
any-defined colour (ints ∷ inputs) (suc place) within is defined =
    let deeper : list_any (λ other. int_eq other colour) (filter (λ other. not (int_eq other undefined_colour)) (map colour_in inputs)) ≡ true = any-defined colour inputs place (omega arith) is defined in
    elim (cases_Bool (int_eq (colour_in ints) undefined_colour)) [
      | inl none ↦ rw none deeper
      | inr some ↦ rw some (elim (cases_Bool (int_eq (colour_in ints) colour)) [ inl h ↦ rw h refl | inr h ↦ rw h deeper ])
    ]

place_within : (colours : List ℤ) (colour : ℤ) → list_any (λ other. int_eq other colour) colours ≡ true → place_among colours colour < length colours
place_within [] colour h = absurd (cc)
place_within (x ∷ colours) colour h =
    elim (cases_Bool (int_eq x colour)) [
      | inl same ↦ rw same (omega arith)
      | inr other ↦ (let deeper : place_among colours colour < length colours = place_within colours colour (rw other at h) in rw other (omega arith))
    ]

-- a defined colour that was entered is among the colours
pub colour_within : (inputs : List (List ℤ)) (place : ℕ) → place < length inputs → int_eq (colour_in (get_or inputs place [])) undefined_colour ≡ false
    → place_among (colours_of inputs) (colour_in (get_or inputs place [])) < length (colours_of inputs)
colour_within inputs place within defined =
    let colour : ℤ = colour_in (get_or inputs place []) in
    let defined_ones : List ℤ = filter (λ other. not (int_eq other undefined_colour)) (map colour_in inputs) in
    place_within (colours_of inputs) colour
    (any-dedup (λ other. int_eq other colour) (by_key (λ y. y) defined_ones)
    ∙ (any-by_key (λ other. int_eq other colour) defined_ones ∙ any-defined colour inputs place within refl defined))

number_is : (colours : List ℤ) (first : ℕ) (colour : ℤ) → place_among colours colour < length colours → colour_number colours first colour ≡ first + place_among colours colour
number_is colours first colour within = rw (lt-ltb (place_among colours colour) (length colours) within) refl

-- its number is above 0, where there is a world
pub number_above : (inputs : List (List ℤ)) (first place : ℕ) → 0 < first → place < length inputs → int_eq (colour_in (get_or inputs place [])) undefined_colour ≡ false
    → 0 < colour_number (colours_of inputs) first (colour_in (get_or inputs place []))
number_above inputs first place some within defined =
    let is : colour_number (colours_of inputs) first (colour_in (get_or inputs place [])) ≡ first + place_among (colours_of inputs) (colour_in (get_or inputs place [])) =
    number_is (colours_of inputs) first (colour_in (get_or inputs place [])) (colour_within inputs place within defined) in
    omega arith

-- and is another's just where the colour is
pub number_same : (inputs : List (List ℤ)) (first : ℕ) (a b : ℤ) → place_among (colours_of inputs) a < length (colours_of inputs) → place_among (colours_of inputs) b < length (colours_of inputs)
    → colour_number (colours_of inputs) first a ≡ colour_number (colours_of inputs) first b → a ≡ b
number_same inputs first a b within_a within_b same =
    let is_a : colour_number (colours_of inputs) first a ≡ first + place_among (colours_of inputs) a = number_is (colours_of inputs) first a within_a in
    let is_b : colour_number (colours_of inputs) first b ≡ first + place_among (colours_of inputs) b = number_is (colours_of inputs) first b within_b in
    let places : place_among (colours_of inputs) a ≡ place_among (colours_of inputs) b = omega arith in
    let at_a : get_or (colours_of inputs) (place_among (colours_of inputs) a) a ≡ a = (Decides-int_eq (get_or (colours_of inputs) (place_among (colours_of inputs) a) a) a).0 (hit (colours_of inputs) a a within_a) in
    let at_b : get_or (colours_of inputs) (place_among (colours_of inputs) b) a ≡ b = (Decides-int_eq (get_or (colours_of inputs) (place_among (colours_of inputs) b) a) b).0 (hit (colours_of inputs) b a within_b) in
    sym at_a ∙ (ap (λ (n : ℕ). get_or (colours_of inputs) n a) places ∙ at_b)

behind : (old made : List (List ℕ)) (n : ℕ) → get_or (old ++ made) (length old + n) [] ≡ get_or made n []
behind [] made n = (let none : 0 + n ≡ n = omega arith in ap (λ (k : ℕ). get_or made k []) none)
behind (x ∷ old) made n =
    (let deeper : suc (length old) + n ≡ suc (length old + n) = omega arith in ap (λ (k : ℕ). get_or (x ∷ old ++ made) k []) deeper ∙ behind old made n)

-- the communicator of that number has the members of that colour
pub number_members : (old : List (List ℕ)) (members : List ℕ) (inputs : List (List ℤ)) (colour : ℤ) → place_among (colours_of inputs) colour < length (colours_of inputs)
    → get_or (old ++ split_members members inputs) (colour_number (colours_of inputs) (length old) colour) [] ≡ split_into colour members inputs
number_members old members inputs colour within =
    let is : colour_number (colours_of inputs) (length old) colour ≡ length old + place_among (colours_of inputs) colour = number_is (colours_of inputs) (length old) colour within in
    let at : get_or (colours_of inputs) (place_among (colours_of inputs) colour) colour ≡ colour =
    (Decides-int_eq (get_or (colours_of inputs) (place_among (colours_of inputs) colour) colour) colour).0 (hit (colours_of inputs) colour colour within) in
    ap (λ (n : ℕ). get_or (old ++ split_members members inputs) n []) is
    ∙ (behind old (split_members members inputs) (place_among (colours_of inputs) colour)
    ∙ (get_or-map (λ colour. split_into colour members inputs) (colours_of inputs) (place_among (colours_of inputs) colour) colour [] within
    ∙ ap (λ (c : ℤ). split_into c members inputs) at))
