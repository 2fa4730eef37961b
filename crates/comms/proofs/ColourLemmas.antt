-- Colours that rise, and where one stands among them.
use Rattle.std.proofs.Common.{◌≡◌, ℕ, zero, suc, ◌+◌, ◌<◌, ◌≤◌, ℤ, List, [], ◌∷◌, ◌++◌, length, get_or, map, take, Bool, true, false, not, refl, sym, inl, inr, ap, ap₂, ◌∙◌, arith, ◌⊎◌}
use Rattle.std.proofs.lemmas.Bool.{cases_Bool, cases_lt, eq-eqb, eqb-true, lt-ltb, ltb-true}
use Rattle.std.proofs.lemmas.Bool.Decides.{Decides-int_eq}
use Rattle.std.proofs.lemmas.Cmp.{int_cmp_total}
use Rattle.std.proofs.lemmas.List.{get_or_default, length-map, map_more}
use Rattle.std.proofs.lemmas.List.Elements.{filter-append}
use Rattle.std.proofs.lemmas.List.Sorted.{searchable_from_sorted}
use Rattle.std.proofs.lemmas.List.Sums.{position_or_len_is}
use Rattle.std.specs.declared.cmp.Ordering.TheVariants.{Less, Equal, Greater}
use Rattle.std.specs.List.{AllByRecursion, dedup, dedup_from, filter}
use Rattle.std.specs.List.Sorted.{IsSorted, IsStrictlySortedBy, IsPartitionPoint, IsNonDecreasingBy}
use Rattle.std.specs.Ordering.{int_cmp, int_eq, is_eq, is_lt, ordering_index, ordering_reverse}
use Rattle.std.specs.Prelude.{◌==◌, nat_lt, int_lt}
use Rattle.mpi_call.specs.Made.{by_key, placed}
use Rattle.mpi_call.specs.Needs.{colour_in, undefined_colour}
use Rattle.comms.specs.Colours.{colours_of, colour_number, place_among}

all_at : {A : Type 0} (P : A → Type 0) (xs : List A) → AllByRecursion P xs → (k : ℕ) (d : A) → k < length xs → P (get_or xs k d)
all_at P [] all k d h = absurd (omega arith)
all_at P (x ∷ xs) all zero d h = all.0
all_at P (x ∷ xs) all (suc k) d h = all_at P xs all.1 k d (omega arith)

pub strict_at : (xs : List ℤ) → IsStrictlySortedBy int_cmp xs → (i j : ℕ) (d : ℤ) → i < j → j < length xs → int_cmp (get_or xs i d) (get_or xs j d) ≡ Less
unfolding IsStrictlySortedBy
strict_at [] rise i j d before within = absurd (omega arith)
strict_at (x ∷ xs) rise i zero d before within = absurd (omega arith)
strict_at (x ∷ xs) rise zero (suc j) d before within = all_at (λ y. int_cmp x y ≡ Less) xs rise.0 j d (omega arith)
strict_at (x ∷ xs) rise (suc i) (suc j) d before within = strict_at xs rise.1 i j d (omega arith) (omega arith)

sorted_of : (xs : List ℤ) → IsStrictlySortedBy int_cmp xs → IsSorted int_cmp xs
sorted_of xs rise = λ k d low high.
    ap is_lt (int_cmp_total.antisymm (get_or xs (k + 1) d) (get_or xs k d) ∙ ap ordering_reverse (strict_at xs rise k (k + 1) d (omega arith) high))

-- a colour that stands at a place stands first there
pub found_at : (xs : List ℤ) (colour : ℤ) (place : ℕ) (d : ℤ) → IsStrictlySortedBy int_cmp xs → place < length xs → get_or xs place d ≡ colour → place ≡ place_among xs colour
found_at xs colour place d rise within is =
    sym (position_or_len_is (λ other. int_eq other colour) xs place d (omega arith)
    (λ k before. ap is_eq (ap (int_cmp (get_or xs k d)) (sym is) ∙ strict_at xs rise k place d before within))
    (λ h. (Decides-int_eq (get_or xs place d) colour).1 is))

-- what a search found, and where it found none
pub search_found : (xs : List ℤ) (colour : ℤ) (place : ℕ) → IsStrictlySortedBy int_cmp xs → place < length xs → ((d : ℤ) → int_cmp (get_or xs place d) colour ≡ Equal) → place ≡ place_among xs colour
search_found xs colour place rise within equal = found_at xs colour place colour rise within ((Decides-int_eq (get_or xs place colour) colour).0 (ap is_eq (equal colour)))

pub search_missed : (xs : List ℤ) (colour : ℤ) (place : ℕ) → IsStrictlySortedBy int_cmp xs
    → (IsNonDecreasingBy (λ y. ordering_index (int_cmp y colour)) xs → IsPartitionPoint (λ y. int_cmp y colour ≡ Less) (λ y. int_cmp y colour ≡ Greater) xs place)
    → length xs ≡ place_among xs colour
search_missed xs colour place rise parts =
    sym (position_or_len_is (λ other. int_eq other colour) xs (length xs) colour (omega arith) (λ k within. none k within (cases_lt k place)) (λ h. absurd (omega arith)))
  where
    split : IsPartitionPoint (λ y. int_cmp y colour ≡ Less) (λ y. int_cmp y colour ≡ Greater) xs place
    split = parts (searchable_from_sorted int_cmp_total (λ (y : ℤ). y) xs colour (sorted_of xs rise))

    none : (k : ℕ) → k < length xs → (k < place) ⊎ (place ≤ k) → int_eq (get_or xs k colour) colour ≡ false
    none k within (inl before) = ap is_eq (split.0 k colour (omega arith) before)
    none k within (inr after) = ap is_eq (split.1 k colour after within)

pub hit : (xs : List ℤ) (colour d : ℤ) → place_among xs colour < length xs → int_eq (get_or xs (place_among xs colour) d) colour ≡ true
hit [] colour d within = absurd (omega arith)
hit (x ∷ xs) colour d within =
    elim (cases_Bool (int_eq x colour)) [
      | inl same ↦ rw same same
      | inr other ↦
          let place : place_among (x ∷ xs) colour ≡ 1 + place_among xs colour = rw other refl in
          let one_more : 1 + place_among xs colour ≡ suc (place_among xs colour) = omega arith in
          let deeper : place_among xs colour < length xs = omega arith in
          rw (other, one_more) (hit xs colour d deeper)
    ]

pub int_eq-sym : (a b : ℤ) → int_eq a b ≡ true → int_eq b a ≡ true
int_eq-sym a b h = (Decides-int_eq b a).1 (sym ((Decides-int_eq a b).0 h))

-- a place is a colour's just where the colour stands there
pub place_is : (xs : List ℤ) (colour : ℤ) (place : ℕ) (d : ℤ) → IsStrictlySortedBy int_cmp xs → place < length xs → (place == place_among xs colour) ≡ int_eq colour (get_or xs place d)
place_is xs colour place d rise within =
    elim (cases_Bool (int_eq colour (get_or xs place d))) [
      | inl same ↦ eq-eqb place (place_among xs colour) (found_at xs colour place d rise within (sym ((Decides-int_eq colour (get_or xs place d)).0 same))) ∙ sym same
      | inr other ↦ elim (cases_Bool (place == place_among xs colour)) [
        | inl h ↦ absurd (
            let at : place ≡ place_among xs colour = eqb-true place (place_among xs colour) h in
            let inside : place_among xs colour < length xs = omega arith in
            let there : int_eq (get_or xs (place_among xs colour) d) colour ≡ true = hit xs colour d inside in
            let here : int_eq (get_or xs place d) colour ≡ true = ap (λ (n : ℕ). int_eq (get_or xs n d) colour) at ∙ there in
            let back : int_eq colour (get_or xs place d) ≡ true = int_eq-sym (get_or xs place d) colour here in
            cc)
        | inr h ↦ h ∙ sym other
      ]
    ]

-- one more colour that is defined
pub defined_more : (inputs : List (List ℤ)) (i : ℕ) → i < length inputs
    → filter (λ colour. not (int_eq colour undefined_colour)) (map colour_in (take (i + 1) inputs))
    ≡ filter (λ colour. not (int_eq colour undefined_colour)) (map colour_in (take i inputs)) ++ filter (λ colour. not (int_eq colour undefined_colour)) (colour_in (get_or inputs i []) ∷ [])
defined_more inputs i within =
    ap (filter (λ colour. not (int_eq colour undefined_colour))) (map_more colour_in inputs i [] within)
    ∙ filter-append (λ colour. not (int_eq colour undefined_colour)) (map colour_in (take i inputs)) (colour_in (get_or inputs i []) ∷ [])

-- a number inside the colours, and outside them
pub number_in : (colours : List ℤ) (first place : ℕ) (colour : ℤ) → place ≡ place_among colours colour → place < length colours → first + place ≡ colour_number colours first colour
number_in colours first place colour is within =
    let inside : nat_lt (place_among colours colour) (length colours) ≡ true = lt-ltb (place_among colours colour) (length colours) (omega arith) in
    rw inside (ap (λ (n : ℕ). first + n) is)

pub number_out : (colours : List ℤ) (first place : ℕ) (colour : ℤ) → place ≡ place_among colours colour → length colours ≤ place → 0 ≡ colour_number colours first colour
number_out colours first place colour is past =
    elim (cases_Bool (nat_lt (place_among colours colour) (length colours))) [
      | inl inside ↦ absurd (let below : place_among colours colour < length colours = ltb-true (place_among colours colour) (length colours) inside in omega arith)
      | inr outside ↦ rw outside refl
    ]

pub numbers_step : (colours : List ℤ) (first : ℕ) (inputs : List (List ℤ)) (i : ℕ) (numbers new : List ℕ) (ints : List ℤ) (colour : ℤ) (number : ℕ) → i < length inputs → ints ≡ get_or inputs i ints
    → colour ≡ colour_in ints → number ≡ colour_number colours first colour → numbers ≡ map (λ ints. colour_number colours first (colour_in ints)) (take i inputs)
    → new ≡ numbers ++ number ∷ [] → new ≡ map (λ ints. colour_number colours first (colour_in ints)) (take (i + 1) inputs)
numbers_step colours first inputs i numbers new ints colour number within at is_colour is so_far grown =
    let here : number ≡ colour_number colours first (colour_in (get_or inputs i [])) =
    is ∙ ap (colour_number colours first) (is_colour ∙ ap colour_in (at ∙ get_or_default inputs i ints [] within)) in
    grown ∙ (ap₂ (λ (front : List ℕ) (n : ℕ). front ++ n ∷ []) so_far here ∙ sym (map_more (λ ints. colour_number colours first (colour_in ints)) inputs i [] within))

-- how many colours there are
length-dedup_from : (k : ℤ) (xs : List ℤ) → length (dedup_from int_eq k xs) ≤ suc (length xs)
length-dedup_from k [] = omega arith
length-dedup_from k (x ∷ xs) =
    elim (cases_Bool (int_eq x k)) [
      | inl same ↦ rw same (let deeper : length (dedup_from int_eq k xs) ≤ suc (length xs) = length-dedup_from k xs in omega arith)
      | inr other ↦ rw other (let deeper : length (dedup_from int_eq x xs) ≤ suc (length xs) = length-dedup_from x xs in omega arith)
    ]

length-dedup : (xs : List ℤ) → length (dedup int_eq xs) ≤ length xs
length-dedup [] = omega arith
length-dedup (x ∷ xs) = length-dedup_from x xs

length-placed : {A : Type 0} (key : A → ℤ) (x : A) (ys : List A) → length (placed key x ys) ≡ suc (length ys)
length-placed key x [] = refl
length-placed key x (y ∷ ys) =
    elim (cases_Bool (int_lt (key y) (key x))) [ inl h ↦ rw h (ap suc (length-placed key x ys)) | inr h ↦ rw h refl ]

pub length-by_key : {A : Type 0} (key : A → ℤ) (xs : List A) → length (by_key key xs) ≡ length xs
length-by_key key [] = refl
length-by_key key (x ∷ xs) = length-placed key x (by_key key xs) ∙ ap suc (length-by_key key xs)

pub length-part : {A : Type 0} (p : A → Bool) (xs : List A) → length (filter p xs) ≤ length xs
length-part p [] = omega arith
length-part p (x ∷ xs) =
    let deeper : length (filter p xs) ≤ length xs = length-part p xs in
    elim (cases_Bool (p x)) [ inl h ↦ rw h (omega arith) | inr h ↦ rw h (omega arith) ]

pub length-colours_of : (inputs : List (List ℤ)) → length (colours_of inputs) ≤ length inputs
length-colours_of inputs =
    let defined : List ℤ = filter (λ colour. not (int_eq colour undefined_colour)) (map colour_in inputs) in
    let once : length (colours_of inputs) ≤ length (by_key (λ colour. colour) defined) = length-dedup (by_key (λ colour. colour) defined) in
    let sorted : length (by_key (λ colour. colour) defined) ≡ length defined = length-by_key (λ colour. colour) defined in
    let part : length defined ≤ length (map colour_in inputs) = length-part (λ colour. not (int_eq colour undefined_colour)) (map colour_in inputs) in
    let all : length (map colour_in inputs) ≡ length inputs = length-map inputs colour_in in
    omega arith
