-- One more member of a Split.
use Rattle.std.proofs.Common.{◌≡◌, ℕ, zero, suc, ◌+◌, ◌<◌, ◌≤◌, ℤ, List, [], ◌∷◌, ◌++◌, length, get_or, map, take, refl, ap, ap₂, sym, inl, inr, ◌∙◌, arith}
use Rattle.std.proofs.lemmas.Bool.{cases_Bool}
use Rattle.std.proofs.lemmas.List.{map-append, get_or_default}
use Rattle.std.proofs.lemmas.List.Elements.{filter-append}
use Rattle.std.proofs.lemmas.List.{take_all}
use Rattle.std.specs.List.{zip}
use Rattle.std.specs.Prelude.{int_lt}
use Rattle.std.specs.Ordering.{int_eq}
use Rattle.mpi_call.specs.inside.Candidates.{candidate_of}
use Rattle.mpi_call.specs.Made.{of_colour, placed, by_key, key_in, split_into}
use Rattle.mpi_call.specs.Needs.{colour_in}
use Rattle.mpi_call.specs.declared.splits.Candidate.{Candidate}

-- the members of a colour among the first n
abbrev pub chosen : ℤ → List ℕ → List (List ℤ) → ℕ → List Candidate
chosen colour members inputs n = map candidate_of (of_colour colour (zip (take n members) (take n inputs)))

zip_more : (members : List ℕ) (inputs : List (List ℤ)) (n : ℕ) → n < length members → n < length inputs
    → zip (take (suc n) members) (take (suc n) inputs) ≡ zip (take n members) (take n inputs) ++ (get_or members n 0, get_or inputs n []) ∷ []
zip_more [] inputs n h g = absurd (omega arith)
zip_more (m ∷ members) [] n h g = absurd (omega arith)
zip_more (m ∷ members) (ints ∷ inputs) zero h g = refl
zip_more (m ∷ members) (ints ∷ inputs) (suc n) h g = ap (λ entries. (m, ints) ∷ entries) (zip_more members inputs n (omega arith) (omega arith))

split_more : (colour : ℤ) (entries : List (ℕ × List ℤ)) (entry : ℕ × List ℤ)
    → map candidate_of (of_colour colour (entries ++ entry ∷ [])) ≡ map candidate_of (of_colour colour entries) ++ map candidate_of (of_colour colour (entry ∷ []))
split_more colour entries entry =
    ap (map candidate_of) (filter-append (λ (entry : ℕ × List ℤ). int_eq (colour_in entry.1) colour) entries (entry ∷ []))
    ∙ map-append candidate_of (of_colour colour entries) (of_colour colour (entry ∷ []))

pub chosen_more : (colour : ℤ) (members : List ℕ) (inputs : List (List ℤ)) (n : ℕ) → n < length members → n < length inputs
    → chosen colour members inputs (n + 1) ≡ chosen colour members inputs n ++ map candidate_of (of_colour colour ((get_or members n 0, get_or inputs n []) ∷ []))
chosen_more colour members inputs n h g =
    let one : n + 1 ≡ suc n = omega arith in
    ap (chosen colour members inputs) one
    ∙ (ap (λ entries. map candidate_of (of_colour colour entries)) (zip_more members inputs n h g)
    ∙ split_more colour (zip (take n members) (take n inputs)) (get_or members n 0, get_or inputs n []))

-- a step of the loop over the members
pub chosen_step : (colour : ℤ) (members : List ℕ) (inputs : List (List ℤ)) (n : ℕ) (found new : List Candidate) (ints : List ℤ)
    → n < length members → length inputs ≡ length members → ints ≡ get_or inputs n ints → found ≡ chosen colour members inputs n
    → new ≡ found ++ map candidate_of (of_colour colour ((get_or members n 0, ints) ∷ [])) → new ≡ chosen colour members inputs (n + 1)
chosen_step colour members inputs n found new ints h many at so_far is =
    let g : n < length inputs = omega arith in
    let there : ints ≡ get_or inputs n [] = at ∙ get_or_default inputs n ints [] g in
    is ∙ (ap₂ (λ front ints. front ++ map candidate_of (of_colour colour ((get_or members n 0, ints) ∷ []))) so_far there
    ∙ sym (chosen_more colour members inputs n h g))

-- a sort of what a function gives of the elements
placed-map : {A B : Type 0} (f : A → B) (key : B → ℤ) (x : A) (ys : List A) → placed key (f x) (map f ys) ≡ map f (placed (λ y. key (f y)) x ys)
placed-map f key x [] = refl
placed-map f key x (y ∷ ys) =
    elim (cases_Bool (int_lt (key (f y)) (key (f x)))) [
      | inl h ↦ rw h (ap (λ zs. f y ∷ zs) (placed-map f key x ys))
      | inr h ↦ rw h refl
    ]

by_key-map : {A B : Type 0} (f : A → B) (key : B → ℤ) (xs : List A) → by_key key (map f xs) ≡ map f (by_key (λ x. key (f x)) xs)
by_key-map f key [] = refl
by_key-map f key (x ∷ xs) = ap (placed key (f x)) (by_key-map f key xs) ∙ placed-map f key x (by_key (λ x. key (f x)) xs)

ranks-map : (entries : List (ℕ × List ℤ)) → map (λ (candidate : Candidate). candidate.rank) (map candidate_of entries) ≡ map (λ entry. entry.0) entries
ranks-map [] = refl
ranks-map (entry ∷ entries) = ap (λ ranks. entry.0 ∷ ranks) (ranks-map entries)

-- the sorted candidates' ranks
pub ranks_of_sorted : (colour : ℤ) (members : List ℕ) (inputs : List (List ℤ)) (found sorted : List Candidate) (ranks : List ℕ)
    → found ≡ map candidate_of (of_colour colour (zip members inputs)) → sorted ≡ by_key (λ candidate. candidate.key) found
    → ranks ≡ map (λ candidate. candidate.rank) sorted → ranks ≡ split_into colour members inputs
ranks_of_sorted colour members inputs found sorted ranks is_found is_sorted is =
    let entries : List (ℕ × List ℤ) = of_colour colour (zip members inputs) in
    is ∙ (ap (map (λ (candidate : Candidate). candidate.rank)) (is_sorted ∙ (ap (by_key (λ (candidate : Candidate). candidate.key)) is_found ∙ by_key-map candidate_of (λ candidate. candidate.key) entries))
    ∙ ranks-map (by_key (λ entry. key_in entry.1) entries))

-- a loop over a whole list
pub all_taken : {A B : Type 0} (f : A → B) (made : List B) (items xs : List A) (n : ℕ) → length items ≤ n → items ≡ xs → made ≡ map f (take n items) → made ≡ map f xs
all_taken f made items xs n past same is = is ∙ ap (map f) (take_all n items past ∙ same)
