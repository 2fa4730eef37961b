-- The Enters of one instance of a collective, in the order in which they were made.
-- (MPI 3.1, Collective Communication, "Correctness": all members call a communicator's collectives in the same order.)
use Rattle.std.specs.Prelude.{◌≡◌, true, ℕ, ℤ, List, [], ◌∷◌, Bool, not, filter, find, option_map, unwrap_or, slice_get, Option, ◌==◌, if◌then◌else◌}
use Rattle.std.specs.List.{list_any, position_or_len}
use Rattle.mpi_call.specs.Calls.{ints_of}
use Rattle.mpi_call.specs.Lists.{IsIn}
use Rattle.mpi_call.specs.Needs.{agree}
use Rattle.mpi_call.specs.declared.call.Call.{Call}
use Rattle.collectives.specs.declared.entrants.Entrant.{Entrant}

-- the rank is among those that entered
abbrev pub has_entered : List Entrant → ℕ → Bool
has_entered entrants rank = list_any (λ entrant. entrant.rank == rank) entrants

-- what a rank entered, nothing where it has not
abbrev pub ints_by : List Entrant → ℕ → List ℤ
ints_by [] rank = []
ints_by (entrant ∷ others) rank = if entrant.rank == rank then ints_of entrant.call else ints_by others rank

-- where a rank's Enter stands, or how many there are, and the ints of the Enter at a place
abbrev pub enter_place : List Entrant → ℕ → ℕ
enter_place entrants rank = position_or_len (λ entrant. entrant.rank == rank) entrants

-- the ints of the Enter at a place, none past the end
abbrev pub ints_at : List Entrant → ℕ → List ℤ
ints_at entrants place = unwrap_or (option_map (λ entrant. ints_of entrant.call) (slice_get entrants place)) []

-- the earliest rank whose Enter does not agree with this one
abbrev pub first_against : List Entrant → Call → Option ℕ
first_against entrants call = option_map (λ entrant. entrant.rank) (find (λ entrant. not (agree entrant.call call)) entrants)

-- the Enters of all others
abbrev pub without_rank : ℕ → List Entrant → List Entrant
without_rank rank entrants = filter (λ entrant. not (entrant.rank == rank)) entrants

-- any two agree, so that all are Enters
pub record AllAgree (entrants : List Entrant) : Type 0 where
  pub pairs : (a b : Entrant) → IsIn a entrants → IsIn b entrants → agree a.call b.call ≡ true
