-- What the members that a collective's result needs have entered, or the first of them that has not entered yet.
-- V is what each rank has seen, `own` what the rank itself has.
use Rattle.std.specs.Prelude.{ℕ, ℤ, List, [], ◌∷◌, Option, Some, None, Bool, true, false, if◌then◌else◌, Result, Ok, Err}
use Rattle.mpi_call.specs.declared.call.Call.{Call}
use Rattle.mpi_call.specs.Calls.{comm_of, ints_of}
use Rattle.mpi_call.specs.declared.reply.Got.{Got}
use Rattle.mpi_call.specs.declared.reply.Got.TheVariants.{Joined, Made}
use Rattle.mpi_call.specs.Collectives.{members_made, needs, result_of}
use Rattle.run_model.specs.Views.{View}
use Rattle.run_model.specs.Communicators.{Entered, enter_at, instance_of, members_for_rank}

-- one list more, in front, where none is missing
abbrev pub push_ints : List ℤ → Result (List (List ℤ)) ℕ → Result (List (List ℤ)) ℕ
push_ints ints (Ok rest) = Ok (ints ∷ rest)
push_ints ints (Err missing) = Err missing

-- what an Enter entered, in front; without the Enter, its member is missing
abbrev pub with_ints : ℕ → Option Entered → Result (List (List ℤ)) ℕ → Result (List (List ℤ)) ℕ
with_ints m (Some entered) rest = push_ints (ints_of entered.call) rest
with_ints m None rest = Err m

-- a list for each member, empty where it is not needed; Err names the first needed member that is not found
abbrev pub gather : (ℕ → Bool) → (ℕ → Option Entered) → List ℕ → Result (List (List ℤ)) ℕ
gather needed find [] = Ok []
gather needed find (m ∷ members) =
    if needed m then with_ints m (find m) (gather needed find members) else push_ints [] (gather needed find members)

-- the inputs for the Enter that is start k of rank `me`
abbrev pub inputs_of : ℕ → (ℕ → View) → ℕ → View → ℕ → Call → Result (List (List ℤ)) ℕ
inputs_of n V me own k enter =
    gather (needs enter (members_for_rank n own (comm_of enter)) me)
    (λ m. enter_at n (V m) (comm_of enter) (instance_of own k (comm_of enter)))
    (members_for_rank n own (comm_of enter))

-- no needed member is missing
abbrev pub is_gathered : Result (List (List ℤ)) ℕ → Bool
is_gathered (Ok inputs) = true
is_gathered (Err m) = false

-- what a collective gives a rank, from the inputs: its result
abbrev pub result_for_rank : ℕ → ℕ → View → Call → List (List ℤ) → Got
result_for_rank n me own enter inputs = Joined (result_of enter (members_for_rank n own (comm_of enter)) inputs me)

-- or the new communicator with this number
abbrev pub communicator_for_rank : ℕ → ℕ → ℕ → View → Call → List (List ℤ) → Got
communicator_for_rank comm n me own enter inputs = Made comm (members_made enter (members_for_rank n own (comm_of enter)) inputs me)
