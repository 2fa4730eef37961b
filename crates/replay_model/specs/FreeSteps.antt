-- What each rank of a group does in any order: its program's next call, and the reply that its log's next entry stands for.
use Rattle.std.specs.Prelude.{◌≡◌, List, [], Some, None, true, Ok, length, slice_get}
use Rattle.mpi_call.specs.Collectives.{is_member}
use Rattle.run_model.specs.declared.event.Event.{Event}
use Rattle.run_model.specs.Lists.{Along}
use Rattle.run_model.specs.Views.{Next, replies_in, view_of}
use Rattle.srr_entry.specs.declared.entry.Entry.{Entry}
use Rattle.srr_entry.specs.declared.log.Log.{Log}
use Rattle.srr_entry.specs.Entries.{entries_for}
use Rattle.replay_model.specs.Filling.{filled_reply}

-- an event of a rank of the group: its program's next call, and what the log's next entry stands for after the events before
pub record IsFreeStep (next : Next) (log : Log) (before : List Event) (event : Event) : Type 0 where
  pub member : is_member log.group event.rank ≡ true
  pub call : next log.ranks event.rank (replies_in (view_of before event.rank)) ≡ Some event.call
  pub entry : Entry
  pub there : slice_get (entries_for log.group log.lists event.rank) (length (view_of before event.rank)) ≡ Some entry
  pub reply : filled_reply log.ranks (view_of before) event.rank (view_of before event.rank) event.call entry ≡ Ok event.reply
  pub mate : event.mate ≡ None
  pub alone : event.met ≡ []

-- events each of which is such a step after those before it
abbrev pub AreFreeSteps : Next → Log → List Event → Type 0
AreFreeSteps next log events = Along (IsFreeStep next log) [] events
