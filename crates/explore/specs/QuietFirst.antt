-- A search that follows one quiet call alone where there is one, and why nothing is missed.
use Rattle.std.specs.Prelude.{◌≡◌, ◌≢◌, ◌<◌, ◌⊎◌, ◌++◌, ◌∷◌, ℕ, List, [], Some, None, Bool, true, false, slice_get}
use Rattle.std.specs.List.{list_any}
use Rattle.mpi_call.specs.declared.call.Call.{Call}
use Rattle.mpi_call.specs.declared.call.Halt.TheVariants.{Mismatched}
use Rattle.mpi_call.specs.declared.reply.Reply.TheVariants.{NotYet}
use Rattle.mpi_call.specs.Lists.{IsIn}
use Rattle.run_model.specs.declared.ending.Ending.{Ending}
use Rattle.run_model.specs.declared.ending.Ending.TheVariants.{Halted}
use Rattle.run_model.specs.declared.event.Event.{Event}
use Rattle.run_model.specs.Due.{halt_of_reply}
use Rattle.run_model.specs.Lists.{Along}
use Rattle.run_model.specs.Serial.{call_after}
use Rattle.run_model.specs.Views.{Next}
use Rattle.picked_runs.specs.declared.turn.Turn.{Turn}
use Rattle.srr_entry.specs.Outputs.{Output}
use Rattle.run_states.specs.Moves.{IsVisited}
use Rattle.run_states.specs.Outcomes.{IsPatientEvent, IsProbeKept, IsWholeRun, outcome_of_run}
use Rattle.quiet_calls.specs.Closure.{IsFarBelow, IsQuietCallMet}
use Rattle.quiet_calls.specs.Quiet.{Races, is_calm, is_reckoned}
use Rattle.explore.specs.declared.found.FoundOutcome.{FoundOutcome}
use Rattle.explore.specs.declared.met.Met.{Met}
use Rattle.explore.specs.declared.quiet.Look.{Look}
use Rattle.explore.specs.declared.quiet.Look.TheVariants.{Hindered}
use Rattle.explore.specs.Explored.{IsListed, events_of_turns}
use Rattle.explore.specs.Searching.{IsLookedAt, IsState, Question, Seen, histories, question_of, seen_by, seen_of}

-- each rank's next call below a number is reckoned with
abbrev pub AreReckonedBelow : Next → ℕ → Races → List Event → ℕ → Type 0
AreReckonedBelow next n races before count =
    (rank : ℕ) (call : Call) → rank < count → call_after next n before rank ≡ Some call → is_reckoned races rank call ≡ true

-- a history is far below the bound, and its calls, and each rank's next call, are reckoned with
pub record IsReckonedWith (next : Next) (n : ℕ) (races : Races) (before : List Event) : Type 0 where
  pub below : IsFarBelow before
  pub past : is_calm races before ≡ true
  pub calls : AreReckonedBelow next n races before n

-- a state that is reckoned with was looked at as any state is; or one quiet call was followed
pub record IsLookedAtQuietly (question : Question) (races : Races) (seen : Seen) (before : List Event) : Type 0 where
  pub reckoned : IsReckonedWith question.next question.ranks races before
  pub looked : IsLookedAt question seen before ⊎ IsQuietCallMet question.next question.ranks races (histories question.next question.ranks seen.states) before

-- a run that ended by a mismatch
abbrev pub is_mismatched_ending : Ending → Bool
is_mismatched_ending (Halted (Mismatched second)) = true
is_mismatched_ending ending = false

-- whether one of those that were found did
abbrev pub has_mismatch : List FoundOutcome → Bool
has_mismatch listed = list_any (λ found. is_mismatched_ending found.outcome.ending) listed

-- each state of a root was looked at so, and the root is met; where no rank completes in part, nothing that is listed ended by a mismatch
pub record IsSearchedQuietly (question : Question) (races : Races) (root : List Event) (seen : Seen) : Type 0 where
  pub first : IsVisited question.ranks (histories question.next question.ranks seen.states) root
  pub are_states : (turns : List Turn) → IsIn turns seen.states → IsState question.next question.ranks root turns
  pub looked : (turns : List Turn) → IsIn turns seen.states → IsLookedAtQuietly question races seen (events_of_turns question.next question.ranks turns)
  pub agreed : races.partial ≡ false → has_mismatch seen.listed ≡ false

-- then what each whole run comes to in which nothing is late, and that is patient from the root on, is listed
abbrev pub PatientRunsAreListedQuietly : Next → Output → ℕ → Type 0
PatientRunsAreListedQuietly next output n =
    (polls : ℕ) (races : Races) (root more : List Event) (states : List (List Turn)) (listed : List FoundOutcome) (polled : Bool)
    → IsSearchedQuietly (question_of next output n polls) races root (seen_of states listed polled)
    → IsWholeRun next n (root ++ more) → Along (IsPatientEvent polls) root more → IsListed listed (outcome_of_run output n (root ++ more))

-- and what each whole run in which nothing is late does, where no rank was held back
abbrev pub AllRunsAreListedQuietly : Next → Output → ℕ → Type 0
AllRunsAreListedQuietly next output n =
    (polls : ℕ) (races : Races) (root more : List Event) (states : List (List Turn)) (listed : List FoundOutcome) (polled : Bool)
    → IsSearchedQuietly (question_of next output n polls) races root (seen_of states listed polled) → polled ≡ false
    → IsWholeRun next n (root ++ more) → IsListed listed (outcome_of_run output n (root ++ more))

-- the last of these events was answered, other than by a halt or NotYet, and keeps its rank's probe
pub record IsLastAnswered (events : List Event) : Type 0 where
  pub before : List Event
  pub event : Event
  pub whole : events ≡ before ++ event ∷ []
  pub free : halt_of_reply event.reply ≡ None
  pub ready : event.reply ≢ NotYet
  pub probe : IsProbeKept before event

-- of a search that has met this, a state was looked at so
abbrev pub HasLookedAtQuietly : Question → Races → Met → List Turn → Type 0
HasLookedAtQuietly question races met turns = IsLookedAtQuietly question races (seen_by met) (events_of_turns question.next question.ranks turns)

-- of a search that has met this, one of the quiet calls of a state was followed
abbrev pub HasMetQuietly : Next → ℕ → Races → Met → List Turn → Type 0
HasMetQuietly next n races met turns = IsQuietCallMet next n races (histories next n met.states) (events_of_turns next n turns)

-- a state was not looked at
abbrev pub is_hindered : Look → Bool
is_hindered (Hindered hindrance) = true
is_hindered look = false

-- the states at these places were looked at so
abbrev pub ArePassed : Question → Races → Met → List ℕ → Type 0
ArePassed question races met places =
    (place : ℕ) → IsIn place places → (turns : List Turn) × (slice_get met.states place ≡ Some turns) × HasLookedAtQuietly question races met turns
