-- Facts about the communicators by number.
use Rattle.std.proofs.Common.{◌≡◌, ◌≢◌, ℕ, zero, suc, ◌+◌, ◌<◌, ◌≤◌, ℤ, List, [], ◌∷◌, ◌++◌, length, get_or, map, Bool, true, false, ◌&&◌, cond, refl, sym, inl, inr, ap, ap₂, ◌∙◌, arith, Option, Some, None}
use Rattle.std.proofs.lemmas.Bool.{cases_Bool, eqb-true, ltb-true}
use Rattle.std.proofs.lemmas.List.{length-map}
use Rattle.std.specs.BTreeMap.{is_at}
use Rattle.std.specs.declared.cmp.Ordering.{Ordering}
use Rattle.std.specs.declared.cmp.Ordering.TheVariants.{Less, Equal, Greater}
use Rattle.std.specs.List.{zip}
use Rattle.std.specs.Map.{lookup}
use Rattle.std.specs.Ordering.{int_eq, is_eq, nat_cmp, ordering_then}
use Rattle.std.specs.Prelude.{◌==◌, nat_lt, option_map, slice_index}
use Rattle.mpi_call.proofs.NeedsLemmas.{eqb-sym}
use Rattle.mpi_call.specs.Made.{by_key, key_in, of_colour, split_into}
use Rattle.mpi_call.specs.Members.{place_of}
use Rattle.mpi_call.specs.Needs.{colour_in}
use Rattle.run_model.specs.Lists.{world}
use Rattle.run_model.proofs.CommunicatorLaws.{length-world}
use Rattle.comms.proofs.ColourLemmas.{length-by_key, length-colours_of, length-part}
use Rattle.comms.specs.Colours.{colours_of}
use Rattle.comms.specs.Communicators.{given_in, number_given_to, AreColoursOf, HaveFewMembers, Communicators, Makes}

neq-eqb : (a b : ℕ) → a ≢ b → (a == b) ≡ false
neq-eqb a b apart = elim (cases_Bool (a == b)) [ inl h ↦ absurd (apart (eqb-true a b h)) | inr h ↦ h ]

is_eq-nat_cmp : (a b : ℕ) → is_eq (nat_cmp a b) ≡ (b == a)
is_eq-nat_cmp a b =
    elim (cases_Bool (nat_lt a b)) [
      | inl less ↦ rw less (sym (neq-eqb b a (λ h. absurd (let below : a < b = ltb-true a b less in omega arith))))
      | inr more ↦ rw more (elim (cases_Bool (a == b)) [
        | inl same ↦ rw same (sym (eqb-sym b a ∙ same))
        | inr apart ↦ rw apart (sym (eqb-sym b a ∙ apart))
      ])
    ]

-- how a pair of numbers is found
abbrev pub pair_cmp : ℕ × ℕ → ℕ × ℕ → Ordering
pair_cmp x y = ordering_then (nat_cmp x.0 y.0) (nat_cmp x.1 y.1)

is_eq-then : (o s : Ordering) → is_eq (ordering_then o s) ≡ (is_eq o && is_eq s)
is_eq-then Less s = refl
is_eq-then Equal s = refl
is_eq-then Greater s = refl

is_at_pair : (comm instance : ℕ) (key : ℕ × ℕ) → is_eq (pair_cmp (comm, instance) key) ≡ (key.0 == comm && key.1 == instance)
is_at_pair comm instance key =
    is_eq-then (nat_cmp comm key.0) (nat_cmp instance key.1) ∙ ap₂ (λ x y. x && y) (is_eq-nat_cmp comm key.0) (is_eq-nat_cmp instance key.1)

pub given_in_is : (entries : List ((ℕ × ℕ) × List ℕ)) (comm instance : ℕ) → given_in entries comm instance ≡ lookup (is_at (pair_cmp (comm, instance))) entries
given_in_is [] comm instance = refl
given_in_is (entry ∷ entries) comm instance =
    elim (cases_Bool (entry.0.0 == comm && entry.0.1 == instance)) [
      | inl here ↦ (let at : is_eq (pair_cmp (comm, instance) entry.0) ≡ true = is_at_pair comm instance entry.0 ∙ here in rw (here, at) refl)
      | inr away ↦ (let off : is_eq (pair_cmp (comm, instance) entry.0) ≡ false = is_at_pair comm instance entry.0 ∙ away in rw (away, off) (given_in_is entries comm instance))
    ]

-- what an insertion and an extension make
pub makes_is : (old : Communicators) (members : List (List ℕ)) (given : List ((ℕ × ℕ) × List ℕ)) (comm instance : ℕ) (made : List (List ℕ)) (numbers : List ℕ)
    → members ≡ old.members ++ made
    → ((q : ℕ × ℕ) → lookup (is_at (pair_cmp q)) given ≡ cond (is_at (pair_cmp (comm, instance)) q) (Some numbers) (lookup (is_at (pair_cmp q)) old.given))
    → Makes old (record { members = members; given = given }) comm instance made numbers
makes_is old members given comm instance made numbers is updates = record {
  members = is;
  given = λ other number. given_in_is given other number ∙ (updates (other, number)
      ∙ ap₂ (λ (b : Bool) (o : Option (List ℕ)). cond b (Some numbers) o) (is_at_pair comm instance (other, number)) (sym (given_in_is old.given other number)));
}

-- what the map has for an instance
pub number_found : (seen : Communicators) (entries : List ((ℕ × ℕ) × List ℕ)) (members : List (List ℕ)) (comm instance rank place number : ℕ) (numbers : List ℕ)
    → Some numbers ≡ lookup (is_at (pair_cmp (comm, instance))) entries → entries ≡ seen.given → members ≡ seen.members
    → place ≡ place_of (get_or members comm []) rank → number ≡ slice_index numbers place → Some number ≡ number_given_to seen comm instance rank
number_found seen entries members comm instance rank place number numbers found is_given is_members is_place is =
    let there : Some numbers ≡ given_in seen.given comm instance = found ∙ (sym (given_in_is entries comm instance) ∙ ap (λ (all : List ((ℕ × ℕ) × List ℕ)). given_in all comm instance) is_given) in
    let at : place ≡ place_of (get_or seen.members comm []) rank = is_place ∙ ap (λ (all : List (List ℕ)). place_of (get_or all comm []) rank) is_members in
    ap (λ (n : ℕ). Some n) (is ∙ ap (slice_index numbers) at) ∙ ap (option_map (λ (numbers : List ℕ). slice_index numbers (place_of (get_or seen.members comm []) rank))) there

pub number_missed : (seen : Communicators) (entries : List ((ℕ × ℕ) × List ℕ)) (comm instance rank : ℕ) → None ≡ lookup (is_at (pair_cmp (comm, instance))) entries → entries ≡ seen.given
    → None ≡ number_given_to seen comm instance rank
number_missed seen entries comm instance rank missed is_given =
    let there : None ≡ given_in seen.given comm instance = missed ∙ (sym (given_in_is entries comm instance) ∙ ap (λ (all : List ((ℕ × ℕ) × List ℕ)). given_in all comm instance) is_given) in
    ap (option_map (λ (numbers : List ℕ). slice_index numbers (place_of (get_or seen.members comm []) rank))) there

-- how many members there are
pub small_world : (ranks : ℕ) → ranks ≤ 255 → HaveFewMembers (world ranks 0 ∷ [])
small_world ranks few = record { at = at }
  where
    at : (comm : ℕ) → length (get_or (world ranks 0 ∷ []) comm []) ≤ 255
    at zero = (let long : length (world ranks 0) ≡ ranks = length-world ranks 0 in omega arith)
    at (suc comm) = omega arith

pub small_append : (old made : List (List ℕ)) → HaveFewMembers old → HaveFewMembers made → HaveFewMembers (old ++ made)
small_append old made few more = record { at = at old made few.at more.at }
  where
    at : (old made : List (List ℕ)) → ((comm : ℕ) → length (get_or old comm []) ≤ 255) → ((comm : ℕ) → length (get_or made comm []) ≤ 255)
        → (comm : ℕ) → length (get_or (old ++ made) comm []) ≤ 255
    at [] made few more comm = more comm
    at (x ∷ old) made few more zero = few 0
    at (x ∷ old) made few more (suc comm) = at old made (λ n. few (suc n)) more comm

length-zip : (members : List ℕ) (inputs : List (List ℤ)) → length (zip members inputs) ≤ length members
length-zip [] inputs = omega arith
length-zip (m ∷ members) [] = omega arith
length-zip (m ∷ members) (ints ∷ inputs) = (let deeper : length (zip members inputs) ≤ length members = length-zip members inputs in omega arith)

length-split_into : (colour : ℤ) (members : List ℕ) (inputs : List (List ℤ)) → length (split_into colour members inputs) ≤ length members
length-split_into colour members inputs =
    let part : List (ℕ × List ℤ) = of_colour colour (zip members inputs) in
    let all : length (split_into colour members inputs) ≡ length (by_key (λ (entry : ℕ × List ℤ). key_in entry.1) part) = length-map (by_key (λ (entry : ℕ × List ℤ). key_in entry.1) part) (λ entry. entry.0) in
    let sorted : length (by_key (λ (entry : ℕ × List ℤ). key_in entry.1) part) ≡ length part = length-by_key (λ (entry : ℕ × List ℤ). key_in entry.1) part in
    let some : length part ≤ length (zip members inputs) = length-part (λ (entry : ℕ × List ℤ). int_eq (colour_in entry.1) colour) (zip members inputs) in
    let both : length (zip members inputs) ≤ length members = length-zip members inputs in
    omega arith

pub small_split : (colours : List ℤ) (members : List ℕ) (inputs : List (List ℤ)) → length members ≤ 255 → HaveFewMembers (map (λ colour. split_into colour members inputs) colours)
small_split colours members inputs few = record { at = at colours }
  where
    at : (colours : List ℤ) (comm : ℕ) → length (get_or (map (λ colour. split_into colour members inputs) colours) comm []) ≤ 255
    at [] comm = omega arith
    at (colour ∷ colours) zero = (let part : length (split_into colour members inputs) ≤ length members = length-split_into colour members inputs in omega arith)
    at (colour ∷ colours) (suc comm) = at colours comm

pub small_one : (members : List ℕ) → length members ≤ 255 → HaveFewMembers (members ∷ [])
small_one members few = record { at = at }
  where
    at : (comm : ℕ) → length (get_or (members ∷ []) comm []) ≤ 255
    at zero = few
    at (suc comm) = omega arith

-- the numbers of new communicators fit
pub numbers_fit : (first : ℕ) (colours : List ℤ) (inputs : List (List ℤ)) (members : List ℕ) → first ≤ 4000000000 → colours ≡ colours_of inputs → AreColoursOf members inputs → length members ≤ 255
    → first + length colours < 4294967296
numbers_fit first colours inputs members low is pairs few =
    let some : length (colours_of inputs) ≤ length inputs = length-colours_of inputs in
    let same : length colours ≡ length (colours_of inputs) = ap length is in
    omega (arith, pairs.as_many)
