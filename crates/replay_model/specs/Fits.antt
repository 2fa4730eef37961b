-- What an entry and a call agree on, by the rank's own view.
use Rattle.std.specs.Prelude.{◌≡◌, ℕ, List, [], ◌∷◌, Option, Some, None, Bool, true, false, not, ◌&&◌, ◌==◌, if◌then◌else◌, nat_le, map, length, slice_index}
use Rattle.std.specs.List.{list_all}
use Rattle.mpi_call.specs.declared.call.Call.{Call}
use Rattle.mpi_call.specs.declared.call.Call.TheVariants.{Send, Post, Enter, Take, Peek, End}
use Rattle.mpi_call.specs.declared.call.Source.TheVariants.{Null}
use Rattle.mpi_call.specs.Acceptance.{source_agrees, tag_agrees}
use Rattle.mpi_call.specs.Calls.{comm_of, is_enter, makes}
use Rattle.mpi_call.specs.Collectives.{is_uncoloured}
use Rattle.run_model.specs.Views.{View, start_at}
use Rattle.run_model.specs.Communicators.{members_for_rank}
use Rattle.run_model.specs.Shape.{are_members, can_take, halt_fits, has_count, is_sized, is_test, rise_within}
use Rattle.srr_entry.specs.declared.entry.Mark.{Mark}
use Rattle.srr_entry.specs.declared.entry.Mark.TheVariants.{Sent as MarkSent, Nothing as MarkNothing, Inside, Outside, Inner, Outer, Made as MarkMade, MadeOutside}
use Rattle.srr_entry.specs.declared.entry.Marked.{Marked}
use Rattle.srr_entry.specs.declared.entry.Entry.{Entry}
use Rattle.srr_entry.specs.declared.entry.Entry.TheVariants.{Sent as EntrySent, Posted, Entered, Ended, Took as EntryTook, NotYet as EntryNotYet, PeekedInside, PeekedOutside, Stopped as EntryStopped}
use Rattle.srr_entry.specs.Entries.{is_inner}

-- a mark and the start that it is for. A message from inside is checked against its Send later; one from outside carries its
-- tag and ints. A result from inside needs members of the group alone, one from outside does not.
abbrev pub mark_fits : ℕ → List ℕ → ℕ → View → Option Call → Mark → Bool
mark_fits n group me own None mark = false
mark_fits n group me own (Some (Send comm dest tag ints sync)) MarkSent = true
mark_fits n group me own (Some (Post comm Null tag room)) MarkNothing = true
mark_fits n group me own (Some (Post comm from tag room)) (Inside source start) = source_agrees from source
mark_fits n group me own (Some (Post comm from tag room)) (Outside source start t ints) =
    source_agrees from source && (tag_agrees tag t && nat_le (length ints) room)
mark_fits n group me own (Some enter) Inner =
    is_enter enter && (not (makes enter) && is_inner n group me own (Some enter))
mark_fits n group me own (Some enter) (Outer ints) =
    is_enter enter && (not (makes enter) && (not (is_inner n group me own (Some enter)) && is_sized n me own enter ints))
mark_fits n group me own (Some enter) (MarkMade comm) =
    makes enter
    && (is_inner n group me own (Some enter) && (if comm == 0 then is_uncoloured enter else not (is_uncoloured enter)))
mark_fits n group me own (Some enter) (MadeOutside comm members) =
    makes enter
    && (not (is_inner n group me own (Some enter))
    && (not (comm == 0) && are_members n me enter (members_for_rank n own (comm_of enter)) members))
mark_fits n group me own start mark = false

-- each mark agrees with the start that it completes
abbrev pub marks_fit : ℕ → List ℕ → ℕ → View → List ℕ → List Marked → Bool
marks_fit n group me own starts [] = true
marks_fit n group me own starts (marked ∷ marks) =
    mark_fits n group me own (start_at own (slice_index starts marked.index)) marked.mark && marks_fit n group me own starts marks

-- an entry and the call that rank `me` makes after what it has seen. Abort and Trap fit a Stopped entry alone.
unfoldable pub entry_fits : ℕ → List ℕ → ℕ → View → Call → Entry → Bool
entry_fits n group me own call (EntryStopped halt) = halt_fits me call halt
entry_fits n group me own (Send comm dest tag ints sync) EntrySent = true
entry_fits n group me own (Post comm source tag room) Posted = true
entry_fits n group me own (Enter comm kind root op count ints) Entered = true
entry_fits n group me own End Ended = true
entry_fits n group me own (Take starts mode) EntryNotYet = is_test mode
entry_fits n group me own (Peek comm source tag wait) EntryNotYet = not wait
entry_fits n group me own (Peek comm from tag wait) (PeekedInside source start) = source_agrees from source
entry_fits n group me own (Peek comm from tag wait) (PeekedOutside source start t count) = source_agrees from source && tag_agrees tag t
entry_fits n group me own (Take starts mode) (EntryTook marks) =
    has_count mode (length starts) (length marks)
    && (rise_within 0 (length starts) (map (λ (marked : Marked). marked.index) marks)
    && (list_all (λ k. can_take own k) starts && marks_fit n group me own starts marks))
entry_fits n group me own call entry = false

-- a start that is there is an Enter
abbrev pub IsEnterAt : View → ℕ → Type 0
IsEnterAt own k = (call : Call) → start_at own k ≡ Some call → is_enter call ≡ true
