-- Calls that can go first: others can neither change how they are answered nor see that they were.
use Rattle.std.specs.Prelude.{◌≡◌, ◌≢◌, ◌<◌, ◌≤◌, ◌⊎◌, ◌+◌, ℕ, List, [], ◌∷◌, ◌++◌, ◌&&◌, ◌||◌, if◌then◌else◌, Some, None, Bool, true, false, is_some, length, not}
use Rattle.mpi_call.specs.declared.call.Call.{Call}
use Rattle.mpi_call.specs.declared.call.Call.TheVariants.{Send, Post, Enter, Take, Peek, End}
use Rattle.mpi_call.specs.declared.call.Source.TheVariants.{Any, From, Null}
use Rattle.mpi_call.specs.declared.call.TakeMode.TheVariants.{All}
use Rattle.mpi_call.specs.declared.reply.Reply.TheVariants.{NotYet}
use Rattle.mpi_call.specs.Calls.{is_enter, makes}
use Rattle.run_model.specs.declared.event.Event.{Event}
use Rattle.run_model.specs.Allowed.{takes_all}
use Rattle.run_model.specs.Due.{halt_of_reply, halted, is_full, is_mismatched}
use Rattle.run_model.specs.Lists.{Along}
use Rattle.run_model.specs.Run.{IsPromptRun}
use Rattle.run_model.specs.Serial.{call_after}
use Rattle.run_model.specs.Views.{Next, View, view_of}
use Rattle.picked_runs.specs.declared.turn.Pick.TheVariants.{First}
use Rattle.picked_runs.specs.Numbering.{AreNumberedInOrder}
use Rattle.picked_runs.specs.Picks.{picked_event, picked_reply}
use Rattle.srr_entry.specs.Outputs.{Output}
use Rattle.run_states.specs.Futures.{SameFuture}
use Rattle.run_states.specs.Outcomes.{IsPatientEvent, IsProbeKept, IsWholeRun, outcome_of_run}

-- the end of a rank, a receive from the null process, a completion of all that it lists: they pair nothing and enter nothing, and once they
-- can be answered the answer stays
abbrev pub is_steady : Call → Bool
is_steady (Post comm Null tag room) = true
is_steady (Take starts mode) = takes_all mode
is_steady End = true
is_steady call = false

-- calls whose answer can tell when another rank's call came: a receive from any source, a probe, a test, a completion of not all that it lists
abbrev pub is_racy : Call → Bool
is_racy (Post comm Any tag room) = true
is_racy (Peek comm source tag wait) = true
is_racy (Take starts All) = false
is_racy (Take starts mode) = true
is_racy call = false

-- completions of not all that they list, and tests
abbrev pub is_partial : Call → Bool
is_partial (Take starts All) = false
is_partial (Take starts mode) = true
is_partial call = false

-- what a search reckons with: which ranks may make racy calls, and whether any rank may complete in part
pub record Races : Type 0 where
  pub ranks : ℕ → Bool
  pub partial : Bool

-- a rank's call is reckoned with: no racy one, or one of these ranks', and no partial one where none is
abbrev pub is_reckoned : Races → ℕ → Call → Bool
is_reckoned races rank call = (races.ranks rank || not (is_racy call)) && (races.partial || not (is_partial call))

-- all calls are, as far as the first halt
abbrev pub is_calm : Races → List Event → Bool
is_calm races [] = true
is_calm races (event ∷ events) = is_reckoned races event.rank event.call && (is_some (halt_of_reply event.reply) || is_calm races events)

-- the steady calls; receives from, and sends to, a rank that is not among the racy ones; where no rank completes in part, the Enters that make
-- no communicator
abbrev pub is_quiet : Races → Call → Bool
is_quiet races (Post comm (From source) tag room) = not (races.ranks source)
is_quiet races (Send comm dest tag ints sync) = not (races.ranks dest)
is_quiet races (Enter comm kind root op count ints) = not races.partial && not (makes (Enter comm kind root op count ints))
is_quiet races call = is_steady call

-- if it is an Enter, no Enter of its instance that these events make disagrees with it
abbrev pub IsAgreed : ℕ → List Event → View → Call → Type 0
IsAgreed n events own call = is_enter call ≡ true → is_mismatched n events own call ≡ false

-- a rank's next call is such a one, and is answered now, other than by a halt or by NotYet. Whatever it could pick, it comes to the same, so
-- that nothing is picked
pub record IsQuiet (next : Next) (n : ℕ) (races : Races) (before : List Event) (rank : ℕ) (call : Call) : Type 0 where
  pub kind : is_quiet races call ≡ true
  pub below : rank < n
  pub asked : call_after next n before rank ≡ Some call
  pub free : halt_of_reply (picked_reply n before rank call First) ≡ None
  pub ready : picked_reply n before rank call First ≢ NotYet
  pub probe : IsProbeKept before (picked_event n before rank call First)

-- the rank's next event in what goes on from a history comes before any halt
pub record IsMadeFree (before more : List Event) (rank : ℕ) : Type 0 where
  pub front : List Event
  pub event : Event
  pub after : List Event
  pub whole : more ≡ front ++ event ∷ after
  pub own : event.rank ≡ rank
  pub free : halted (before ++ front ++ event ∷ []) ≡ None

-- what comes before the first halt
abbrev pub before_halt : List Event → List Event
before_halt [] = []
before_halt (event ∷ events) = if is_some (halt_of_reply event.reply) then [] else event ∷ before_halt events

-- what goes on from a history goes on so behind one event more, and comes to the same: it is whole, as patient as it was, and no longer; where
-- the event's rank made its next call in it without a halt, it is that event shorter
pub record GoesOnBehind (next : Next) (output : Output) (n : ℕ) (root more : List Event) (first : Event) : Type 0 where
  pub rest : List Event
  pub whole : IsWholeRun next n (root ++ first ∷ rest)
  pub outcome : outcome_of_run output n (root ++ more) ≡ outcome_of_run output n (root ++ first ∷ rest)
  pub patient : (most : ℕ) → Along (IsPatientEvent most) root more → Along (IsPatientEvent most) root (first ∷ rest)
  pub longer : length rest ≤ length more
  pub shorter : IsMadeFree root more first.rank → length rest + 1 ≡ length more

-- after a history with a quiet call each whole run from there on in which nothing is late, that is calm, and agrees with the call, comes to what one
-- comes to that makes this call first, if the run is below its bound with one call more, as far as its first halt
abbrev pub QuietCallsGoFirst : Next → Output → ℕ → Type 0
QuietCallsGoFirst next output n =
    (races : Races) (root more : List Event) (rank : ℕ) (call : Call) → IsQuiet next n races root rank call
    → IsWholeRun next n (root ++ more) → is_calm races (root ++ more) ≡ true → IsAgreed n (root ++ more) (view_of root rank) call
    → is_full (root ++ picked_event n root rank call First ∷ before_halt more) ≡ false
    → GoesOnBehind next output n root more (picked_event n root rank call First)

-- the call was made in what goes on: it is as if it had been made first
pub record IsMadeThere (n : ℕ) (root front rest : List Event) (first : Event) : Type 0 where
  pub future : SameFuture n (root ++ front) (root ++ first ∷ rest)
  pub count : length rest + 1 ≡ length front

-- it was not, and its rank's call can be made behind: it is as if it had been made first, and what goes on behind it
pub record IsLeftOver (next : Next) (n : ℕ) (root front rest : List Event) (first : Event) : Type 0 where
  pub last : Event
  pub asked : call_after next n (root ++ front) first.rank ≡ Some first.call
  pub made : last ≡ picked_event n (root ++ front) first.rank first.call First
  pub reply : last.reply ≡ first.reply
  pub future : SameFuture n ((root ++ front) ++ last ∷ []) (root ++ first ∷ rest)
  pub count : length rest ≡ length front

-- what goes on from a history without a halt, nothing in it late, goes on so behind one event more: it keeps its probes if the first does, and leaves the same, but for the
-- event itself where it was not made
pub record GoesAhead (next : Next) (n : ℕ) (root front : List Event) (first : Event) : Type 0 where
  pub rest : List Event
  pub run : IsPromptRun next n (root ++ first ∷ rest)
  pub numbered : AreNumberedInOrder n (root ++ first ∷ rest)
  pub probes : Along IsProbeKept root front → Along IsProbeKept root (first ∷ rest)
  pub left : IsMadeThere n root front rest first ⊎ IsLeftOver next n root front rest first

-- the same of runs in which nothing is late that have not ended, as far as they go without a halt
abbrev pub QuietCallsGoAhead : Next → ℕ → Type 0
QuietCallsGoAhead next n =
    (races : Races) (root front : List Event) (rank : ℕ) (call : Call) → IsQuiet next n races root rank call
    → IsPromptRun next n (root ++ front) → AreNumberedInOrder n (root ++ front) → halted (root ++ front) ≡ None → is_calm races (root ++ front) ≡ true
    → IsAgreed n (root ++ front) (view_of root rank) call → is_full (root ++ picked_event n root rank call First ∷ front) ≡ false
    → GoesAhead next n root front (picked_event n root rank call First)
