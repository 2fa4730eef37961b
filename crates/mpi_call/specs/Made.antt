-- The members of the communicators that Split and Dup make.
-- (MPI 3.1, Groups, Contexts, Communicators, and Caching, "Communicator Constructors".)
use Rattle.std.specs.Prelude.{ℕ, ℤ, pos, List, [], ◌∷◌, map, filter, zip, if◌then◌else◌, int_lt}
use Rattle.std.specs.List.{slice_index_or}
use Rattle.std.specs.Ordering.{int_eq}
use Rattle.mpi_call.specs.Needs.{colour_in, undefined_colour}
use Rattle.mpi_call.specs.declared.call.Call.{Call}
use Rattle.mpi_call.specs.declared.call.Call.TheVariants.{Enter}
use Rattle.mpi_call.specs.declared.call.Kind.TheVariants.{Split, Dup}

-- an element put before the first whose key is not less
abbrev pub placed : {A : Type 0} → (A → ℤ) → A → List A → List A
placed key x [] = x ∷ []
placed key x (y ∷ ys) = if int_lt (key y) (key x) then y ∷ placed key x ys else x ∷ y ∷ ys

-- a list by key; elements of one key stay in the order that they have
abbrev pub by_key : {A : Type 0} → (A → ℤ) → List A → List A
by_key key [] = []
by_key key (x ∷ xs) = placed key x (by_key key xs)

-- the key that a member of a Split entered after its colour
abbrev pub key_in : List ℤ → ℤ
key_in ints = slice_index_or ints 1 (pos 0)

-- the members that entered this colour, each with its ints, in member order
abbrev pub of_colour : ℤ → List (ℕ × List ℤ) → List (ℕ × List ℤ)
of_colour colour entries = filter (λ entry. int_eq (colour_in entry.1) colour) entries

-- the members of one colour, by key and then by place
abbrev pub split_into : ℤ → List ℕ → List (List ℤ) → List ℕ
split_into colour members inputs = map (λ entry. entry.0) (by_key (λ entry. key_in entry.1) (of_colour colour (zip members inputs)))

-- the members of the communicator that `me` gets, from the ints of each member in member order
abbrev pub members_made : Call → List ℕ → List (List ℤ) → ℕ → List ℕ
members_made (Enter comm Dup root op count ints) members inputs me = members
members_made (Enter comm Split root op count ints) members inputs me =
    if int_eq (colour_in ints) undefined_colour then [] else split_into (colour_in ints) members inputs
members_made call members inputs me = []
