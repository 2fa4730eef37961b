-- What a search reckons with, as it is kept.
use Rattle.std.specs.Prelude.{ℕ, List, [], ◌∷◌, Option, Some, None, Bool, true, false, ◌||◌, if◌then◌else◌, replicate}
use Rattle.std.specs.List.{slice_index_or, slice_set}
use Rattle.mpi_call.specs.declared.call.Call.{Call}
use Rattle.run_model.specs.declared.event.Event.{Event}
use Rattle.quiet_calls.specs.Quiet.{Races, is_partial, is_reckoned}
use Rattle.explore.specs.declared.races.Race.{Race}

-- a flag for each rank that may make racy calls, and one for completions in part
pub record RaceFlags : Type 0 where
  pub ranks : List Bool
  pub partial : Bool

-- what these flags reckon with
abbrev pub races_of : RaceFlags → Races
races_of flags = record { ranks = λ rank. slice_index_or flags.ranks rank false; partial = flags.partial }

-- no rank of so many is reckoned with
abbrev pub no_races : ℕ → RaceFlags
no_races n = record { ranks = replicate n false; partial = false }

-- this race is reckoned with too
abbrev pub and_race : RaceFlags → Race → RaceFlags
and_race flags race = record { ranks = slice_set flags.ranks race.rank true; partial = flags.partial || race.partial }

-- the race of a rank's call, where it is not reckoned with
abbrev pub race_of : RaceFlags → ℕ → Call → Option Race
race_of flags rank call = if is_reckoned (races_of flags) rank call then None else Some (record { rank = rank; partial = is_partial call })

-- that of its next call, if it makes one
abbrev pub race_next : RaceFlags → ℕ → Option Call → Option Race
race_next flags rank None = None
race_next flags rank (Some call) = race_of flags rank call

-- the first of two that is there
abbrev pub first_race : Option Race → Option Race → Option Race
first_race None other = other
first_race (Some race) other = Some race

-- the first race of these events
abbrev pub race_in : RaceFlags → List Event → Option Race
race_in flags [] = None
race_in flags (event ∷ events) = first_race (race_of flags event.rank event.call) (race_in flags events)
