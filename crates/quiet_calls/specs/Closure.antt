-- Histories that a search has met which follows one quiet call alone where there is one.
use Rattle.std.specs.Prelude.{◌≡◌, ◌<◌, ◌⊎◌, ◌+◌, ℕ, List, [], ◌∷◌, ◌++◌, Some, None, true, false, length}
use Rattle.mpi_call.specs.declared.call.Call.{Call}
use Rattle.mpi_call.specs.declared.call.Halt.TheVariants.{Mismatched}
use Rattle.mpi_call.specs.declared.limits.TheConstants.{MOST_EVENTS, MOST_SIZE}
use Rattle.mpi_call.specs.Lists.{IsIn}
use Rattle.run_model.specs.declared.event.Event.{Event}
use Rattle.run_model.specs.Due.{halted, total_size}
use Rattle.run_model.specs.Lists.{Along}
use Rattle.run_model.specs.Run.{IsPromptRun}
use Rattle.run_model.specs.Serial.{call_after}
use Rattle.run_model.specs.Views.{Next, moment_at}
use Rattle.picked_runs.specs.declared.turn.Pick.{Pick}
use Rattle.picked_runs.specs.declared.turn.Pick.TheVariants.{First}
use Rattle.picked_runs.specs.Numbering.{AreNumberedInOrder}
use Rattle.picked_runs.specs.Picks.{picked_event}
use Rattle.srr_entry.specs.Outputs.{Output}
use Rattle.run_states.specs.Moves.{IsHalting, IsVisited, IsMove}
use Rattle.run_states.specs.Outcomes.{IsPatientEvent, IsProbeKept, IsWholeRun, KeepsProbes, outcome_of_run}
use Rattle.run_states.specs.StateLaws.{IsOutcomeMet, IsPatientStep}
use Rattle.quiet_calls.specs.Quiet.{IsQuiet, Races, is_calm, is_reckoned}

-- less than half of the bound, in events and in size
pub record IsFarBelow (events : List Event) : Type 0 where
  pub count : length events + length events < MOST_EVENTS
  pub size : total_size events + total_size events < MOST_SIZE

-- a run in which nothing is late, with a recording machine's numbers, that keeps its probes, has no halt, and is far below its bound
pub record IsOnItsWay (next : Next) (n : ℕ) (events : List Event) : Type 0 where
  pub run : IsPromptRun next n events
  pub numbered : AreNumberedInOrder n events
  pub probes : KeepsProbes events
  pub free : halted events ≡ None
  pub below : IsFarBelow events

-- what the wanted moves of a history make is met
abbrev pub AreMovesMet : Next → ℕ → (List Event → Event → Type 0) → List (List Event) → List Event → Type 0
AreMovesMet next n IsWanted visited before =
    (rank : ℕ) (call : Call) (pick : Pick) → IsMove next n before rank call pick → IsWanted before (picked_event n before rank call pick)
    → IsVisited n visited (before ++ picked_event n before rank call pick ∷ [])

-- what one quiet call makes of a history is
pub record IsQuietCallMet (next : Next) (n : ℕ) (races : Races) (visited : List (List Event)) (before : List Event) : Type 0 where
  pub rank : ℕ
  pub call : Call
  pub quiet : IsQuiet next n races before rank call
  pub met : IsVisited n visited (before ++ picked_event n before rank call First ∷ [])

-- histories that a search has met, and those of them that it opened
pub record MetHistories : Type 0 where
  pub opened : List (List Event)
  pub visited : List (List Event)

-- the histories met of these parts
abbrev pub met_histories : List (List Event) → List (List Event) → MetHistories
met_histories opened visited = record { opened = opened; visited = visited }

-- these histories, each of them a run on its way, have met a first one, and of each of them what one quiet call makes; or else what its moves
-- make, as far as the steps are wanted: those are opened
pub record AreClosedQuietly (next : Next) (n : ℕ) (races : Races) (root : List Event) (IsWanted : List Event → Event → Type 0) (met : MetHistories) : Type 0 where
  pub first : IsVisited n met.visited root
  pub runs : (before : List Event) → IsIn before met.visited → IsOnItsWay next n before
  pub more : (before : List Event) → IsIn before met.visited
      → (IsIn before met.opened × AreMovesMet next n IsWanted met.visited before) ⊎ IsQuietCallMet next n races met.visited before

-- the calls of these histories, and each rank's next call, are reckoned with; where no rank completes in part, none that was opened is
-- halted by a mismatch
pub record AreReckonedWith (next : Next) (n : ℕ) (races : Races) (opened visited : List (List Event)) : Type 0 where
  pub past : (before : List Event) → IsIn before visited → is_calm races before ≡ true
  pub calls : (before : List Event) (rank : ℕ) (call : Call) → IsIn before visited → rank < n → call_after next n before rank ≡ Some call
      → is_reckoned races rank call ≡ true
  pub agreed : races.partial ≡ false → (before : List Event) (rank : ℕ) (call : Call) (pick : Pick) (second : ℕ) → IsIn before opened
      → IsHalting next (moment_at n before rank) call pick (Mismatched second) → ⊥

-- what each whole run, nothing in it late, from the first of such histories on comes to is what one that was opened comes to
abbrev pub QuietCallsMissNothing : Next → Output → ℕ → Type 0
QuietCallsMissNothing next output n =
    (races : Races) (root more : List Event) (opened visited : List (List Event)) → AreClosedQuietly next n races root IsProbeKept (met_histories opened visited)
    → AreReckonedWith next n races opened visited → IsWholeRun next n (root ++ more) → IsOutcomeMet next output n opened (outcome_of_run output n (root ++ more))

-- where patient steps alone are wanted, what each does that is patient from there on
abbrev pub QuietCallsMissNothingPatient : Next → Output → ℕ → Type 0
QuietCallsMissNothingPatient next output n =
    (most : ℕ) (races : Races) (root more : List Event) (opened visited : List (List Event))
    → AreClosedQuietly next n races root (IsPatientStep most) (met_histories opened visited) → AreReckonedWith next n races opened visited
    → IsWholeRun next n (root ++ more) → Along (IsPatientEvent most) root more → IsOutcomeMet next output n opened (outcome_of_run output n (root ++ more))

-- any race is reckoned with, so that the steady calls alone are quiet
abbrev pub any_race : Races
any_race = record { ranks = λ rank. true; partial = true }

-- then nothing is asked of the calls that ranks make
abbrev pub SteadyCallsMissNothing : Next → Output → ℕ → Type 0
SteadyCallsMissNothing next output n =
    (root more : List Event) (opened visited : List (List Event)) → AreClosedQuietly next n any_race root IsProbeKept (met_histories opened visited)
    → IsWholeRun next n (root ++ more) → IsOutcomeMet next output n opened (outcome_of_run output n (root ++ more))

-- nor of those that are patient
abbrev pub SteadyCallsMissNothingPatient : Next → Output → ℕ → Type 0
SteadyCallsMissNothingPatient next output n =
    (most : ℕ) (root more : List Event) (opened visited : List (List Event))
    → AreClosedQuietly next n any_race root (IsPatientStep most) (met_histories opened visited) → IsWholeRun next n (root ++ more) → Along (IsPatientEvent most) root more
    → IsOutcomeMet next output n opened (outcome_of_run output n (root ++ more))
