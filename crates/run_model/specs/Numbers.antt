-- The numbers that a recording machine gives to new communicators: 1, 2, 3 and so on, when the last member enters, rising
-- by colour within one Split.
-- (MPI 3.1, Groups, Contexts, Communicators, and Caching, "Communicator Constructors".)
use Rattle.std.specs.Prelude.{ℕ, suc, ℤ, List, [], ◌∷◌, ◌++◌, Bool, true, false, not, ◌&&◌, ◌==◌, if◌then◌else◌, Result, Ok, Err, map, filter}
use Rattle.std.specs.List.{dedup, position_or_len}
use Rattle.std.specs.Ordering.{int_eq}
use Rattle.mpi_call.specs.declared.call.Call.{Call}
use Rattle.mpi_call.specs.declared.call.Call.TheVariants.{Enter}
use Rattle.mpi_call.specs.declared.call.Kind.TheVariants.{Split, Dup}
use Rattle.mpi_call.specs.Calls.{comm_of}
use Rattle.mpi_call.specs.Collectives.{colour_of}
use Rattle.mpi_call.specs.Made.{by_key}
use Rattle.mpi_call.specs.Needs.{colour_in, undefined_colour}
use Rattle.run_model.specs.declared.event.Event.{Event}
use Rattle.run_model.specs.Views.{View, view_of, starts_of, is_start}
use Rattle.run_model.specs.Communicators.{count_on, enter_at, instance_of, members_for_rank}
use Rattle.run_model.specs.Inputs.{gather}

-- where a communicator comes from: the instance of a Split or Dup, and for a Split the colour
pub record Origin : Type 0 where
  pub comm : ℕ
  pub instance : ℕ
  pub colour : List ℤ

-- two colours are the same, or both are none
abbrev pub same_colour : List ℤ → List ℤ → Bool
same_colour [] [] = true
same_colour [] (y ∷ ys) = false
same_colour (x ∷ xs) [] = false
same_colour (x ∷ xs) (y ∷ ys) = int_eq x y && same_colour xs ys

-- two communicators come from the same instance and colour
abbrev pub same_origin : Origin → Origin → Bool
same_origin a b = (a.comm == b.comm) && ((a.instance == b.instance) && same_colour a.colour b.colour)

-- the origin of what an Enter, start k of a rank, makes
abbrev pub origin_of : View → ℕ → Call → Origin
origin_of own k enter = record { comm = comm_of enter; instance = instance_of own k (comm_of enter); colour = colour_of enter }

-- the colours that were entered, rising, each once, without the undefined one
abbrev pub colours_entered : List (List ℤ) → List ℤ
colours_entered inputs =
    dedup int_eq (by_key (λ colour. colour) (filter (λ colour. not (int_eq colour undefined_colour)) (map colour_in inputs)))

-- a Split makes a communicator for each of these, a Dup one, and no other collective any
abbrev pub colours_made : Call → List (List ℤ) → List (List ℤ)
colours_made (Enter comm Split root op count ints) inputs = map (λ colour. colour ∷ []) (colours_entered inputs)
colours_made (Enter comm Dup root op count ints) inputs = [] ∷ []
colours_made call inputs = []

-- none as long as a member has not entered
abbrev pub origins_from : Result (List (List ℤ)) ℕ → ℕ → Call → List Origin
origins_from (Err missing) instance enter = []
origins_from (Ok inputs) instance enter =
    map (λ colour. record { comm = comm_of enter; instance = instance; colour = colour }) (colours_made enter inputs)

-- what all these members entered in an instance, over what each rank has seen
abbrev pub entered_by_all : ℕ → (ℕ → View) → ℕ → ℕ → List ℕ → Result (List (List ℤ)) ℕ
entered_by_all n V comm instance members = gather (λ m. true) (λ m. enter_at n (V m) comm instance) members

-- the communicators that an event makes: those of the Split or Dup that it enters, where it is the last member's Enter
abbrev pub made_at : ℕ → List Event → Event → List Origin
made_at n before event =
    if is_start (event.call, event.reply)
    then origins_from
    (entered_by_all n (view_of (before ++ event ∷ [])) (comm_of event.call) (count_on (comm_of event.call) (starts_of (view_of before event.rank))) (members_for_rank n (view_of before event.rank) (comm_of event.call)))
    (count_on (comm_of event.call) (starts_of (view_of before event.rank))) event.call
    else []

-- the communicators that these events make, one after the other, after those before
abbrev pub made_along : ℕ → List Event → List Event → List Origin
made_along n before [] = []
made_along n before (event ∷ events) = made_at n before event ++ made_along n (before ++ event ∷ []) events

-- the communicators that a history made, in order
abbrev pub communicators_of : ℕ → List Event → List Origin
communicators_of n events = made_along n [] events

-- the number of a communicator: 1 for the first that was made, 2 for the second and so on
abbrev pub number_among : List Origin → Origin → ℕ
number_among made origin = suc (position_or_len (λ other. same_origin other origin) made)
