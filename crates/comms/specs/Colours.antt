-- What a Split makes of the colours that were entered.
-- (MPI 3.1, Groups, Contexts, Communicators, and Caching, "Communicator Constructors".)
use Rattle.std.specs.Prelude.{ℕ, ◌+◌, ℤ, List, map, filter, length, not, nat_lt, if◌then◌else◌}
use Rattle.std.specs.List.{dedup, position_or_len}
use Rattle.std.specs.Ordering.{int_eq}
use Rattle.mpi_call.specs.Made.{by_key, split_into}
use Rattle.mpi_call.specs.Needs.{colour_in, undefined_colour}

-- the colours that were entered, rising, each once, without the undefined one
abbrev pub colours_of : List (List ℤ) → List ℤ
colours_of inputs = dedup int_eq (by_key (λ colour. colour) (filter (λ colour. not (int_eq colour undefined_colour)) (map colour_in inputs)))

-- the numbers of new communicators rise from `first` with their colours; a colour that is none of these has number 0
abbrev pub place_among : List ℤ → ℤ → ℕ
place_among colours colour = position_or_len (λ other. int_eq other colour) colours

-- the number of the communicator of a colour
abbrev pub colour_number : List ℤ → ℕ → ℤ → ℕ
colour_number colours first colour = if nat_lt (place_among colours colour) (length colours) then first + place_among colours colour else 0

-- the number that each member gets, in member order, and the members of each new communicator, by number
abbrev pub split_numbers : ℕ → List (List ℤ) → List ℕ
split_numbers first inputs = map (λ ints. colour_number (colours_of inputs) first (colour_in ints)) inputs

-- the members of each new communicator, by number
abbrev pub split_members : List ℕ → List (List ℤ) → List (List ℕ)
split_members members inputs = map (λ colour. split_into colour members inputs) (colours_of inputs)
