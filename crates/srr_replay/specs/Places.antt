-- How far a rank that waits has come in its next entry.
use Rattle.std.specs.Prelude.{◌≡◌, ◌≤◌, ℕ, List, [], Option, Some, None, true, length, slice_get, slice_index_or, take}
use Rattle.mpi_call.specs.declared.call.Call.{Call}
use Rattle.run_model.specs.declared.event.Event.{Event}
use Rattle.run_model.specs.Views.{Moment, Next, moment_at, replies_in, view_of}
use Rattle.srr_entry.specs.declared.entry.Entry.{Entry}
use Rattle.srr_entry.specs.declared.entry.Entry.TheVariants.{Took}
use Rattle.srr_entry.specs.declared.entry.Marked.{Marked}
use Rattle.srr_entry.specs.declared.log.Log.{Log}
use Rattle.srr_entry.specs.Entries.{entries_for}
use Rattle.replay_model.specs.Filling.{filled_reply, missing_of}
use Rattle.replay_model.specs.Fits.{entry_fits}

-- the marks of an entry
abbrev pub marks_of_entry : Entry → List Marked
marks_of_entry (Took marks) = marks
marks_of_entry entry = []

-- nothing is missing that the first `place` marks of an entry rest on
pub record AreThere (n : ℕ) (events : List Event) (rank : ℕ) (call : Call) (entry : Entry) (place : ℕ) : Type 0 where
  pub within : place ≤ length (marks_of_entry entry)
  pub there : missing_of (filled_reply n (view_of events) rank (view_of events rank) call (Took (take place (marks_of_entry entry)))) ≡ None

-- and the call fits the entry
pub record IsEntryPlace (moment : Moment) (group : List ℕ) (call : Call) (entry : Entry) (place : ℕ) : Type 0 where
  pub fit : entry_fits moment.ranks group moment.me moment.own call entry ≡ true
  pub first : AreThere moment.ranks moment.before moment.me call entry place

-- in the rank's next entry, where the log has one
abbrev pub IsPlaceIn : Log → List Event → ℕ → Call → ℕ → Type 0
IsPlaceIn log events rank call place =
    (entry : Entry) → slice_get (entries_for log.group log.lists rank) (length (view_of events rank)) ≡ Some entry → IsEntryPlace (moment_at log.ranks events rank) log.group call entry place

-- each rank has one place at most, of the call that its program makes next
pub record ArePlaces (next : Next) (log : Log) (events : List Event) (places : List (Option ℕ)) : Type 0 where
  pub as_many : length places ≡ log.ranks
  pub each : (rank place : ℕ) (call : Call) → slice_index_or places rank None ≡ Some place
      → next log.ranks rank (replies_in (view_of events rank)) ≡ Some call → IsPlaceIn log events rank call place
