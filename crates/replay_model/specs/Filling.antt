-- The reply that an entry stands for, where all that it rests on has been replayed.
-- V is what each rank has seen, `own` what rank `me` itself has.
use Rattle.std.specs.Prelude.{ℕ, ℤ, List, [], ◌∷◌, Option, Some, None, ◌==◌, if◌then◌else◌, length, slice_index, Result, Ok, Err}
use Rattle.mpi_call.specs.declared.call.Call.{Call}
use Rattle.mpi_call.specs.declared.call.Call.TheVariants.{Send}
use Rattle.mpi_call.specs.declared.reply.Got.{Got}
use Rattle.mpi_call.specs.declared.reply.Got.TheVariants.{Sent, Nothing, Message, Joined, Made}
use Rattle.mpi_call.specs.declared.reply.Item.{Item}
use Rattle.mpi_call.specs.declared.reply.Reply.{Reply}
use Rattle.mpi_call.specs.declared.reply.Reply.TheVariants.{Done, Took, NotYet, Peeked, Stopped}
use Rattle.mpi_call.specs.Calls.{comm_of, listed_by}
use Rattle.run_model.specs.Views.{View, start_at}
use Rattle.run_model.specs.Communicators.{instance_of}
use Rattle.run_model.specs.Inputs.{communicator_for_rank, inputs_of, result_for_rank}
use Rattle.srr_entry.specs.declared.entry.Mark.{Mark}
use Rattle.srr_entry.specs.declared.entry.Mark.TheVariants.{Sent as MarkSent, Nothing as MarkNothing, Inside, Outside, Inner, Outer, Made as MarkMade, MadeOutside}
use Rattle.srr_entry.specs.declared.entry.Marked.{Marked}
use Rattle.srr_entry.specs.declared.entry.Entry.{Entry}
use Rattle.srr_entry.specs.declared.entry.Entry.TheVariants.{Sent as EntrySent, Posted, Entered, Ended, Took as EntryTook, NotYet as EntryNotYet, PeekedInside, PeekedOutside, Stopped as EntryStopped}
use Rattle.replay_model.specs.declared.step.Missing.{Missing}
use Rattle.replay_model.specs.declared.step.Missing.TheVariants.{Start, Member}

-- a collective's result and a new communicator, from the inputs of the members that are needed
abbrev pub joined_result : ℕ → ℕ → View → ℕ → Call → Result (List (List ℤ)) ℕ → Result Got Missing
joined_result n me own k enter (Ok inputs) = Ok (result_for_rank n me own enter inputs)
joined_result n me own k enter (Err m) = Err (Member m (comm_of enter) (instance_of own k (comm_of enter)))

-- a rank that asks: how many ranks there are, the rank, and what it has seen
pub record Asker : Type 0 where
  pub ranks : ℕ
  pub me : ℕ
  pub own : View

-- the asking rank with these parts
abbrev pub asker_of : ℕ → ℕ → View → Asker
asker_of n me own = record { ranks = n; me = me; own = own }

-- the new communicator with this number that the asking rank's start k gave it
abbrev pub made_new : ℕ → Asker → ℕ → Call → Result (List (List ℤ)) ℕ → Result Got Missing
made_new comm asker k enter (Ok inputs) = Ok (communicator_for_rank comm asker.ranks asker.me asker.own enter inputs)
made_new comm asker k enter (Err m) = Err (Member m (comm_of enter) (instance_of asker.own k (comm_of enter)))

-- the message of a named start. Where that start is no Send any value serves: the entry breaks on it.
abbrev pub filled_message : ℕ → ℕ → Option Call → Result Got Missing
filled_message source start None = Err (Start source start)
filled_message source start (Some (Send comm dest tag ints sync)) = Ok (Message source start tag ints)
filled_message source start (Some call) = Ok Nothing

-- what a probe finds at a start: the send that it names, or nothing yet replayed there
abbrev pub peeked_from : ℕ → ℕ → Option Call → Result Reply Missing
peeked_from source start None = Err (Start source start)
peeked_from source start (Some (Send comm dest tag ints sync)) = Ok (Peeked source start tag (length ints))
peeked_from source start (Some call) = Ok NotYet

-- the result of a collective call that a rank's start is, from what the others gave
abbrev pub fill_inner : ℕ → (ℕ → View) → ℕ → View → ℕ → Option Call → Result Got Missing
fill_inner n V me own k (Some enter) = joined_result n me own k enter (inputs_of n V me own k enter)
fill_inner n V me own k None = Ok Nothing

-- the communicator that a collective call makes, from what the others gave
abbrev pub fill_made : ℕ → (ℕ → View) → Asker → ℕ → Option Call → Result Got Missing
fill_made comm V asker k (Some enter) = made_new comm asker k enter (inputs_of asker.ranks V asker.me asker.own k enter)
fill_made comm V asker k None = Ok Nothing

-- what a mark for start k stands for, or the first that it rests on and that is not there
abbrev pub fill_mark : ℕ → (ℕ → View) → ℕ → View → ℕ → Mark → Result Got Missing
fill_mark n V me own k MarkSent = Ok Sent
fill_mark n V me own k MarkNothing = Ok Nothing
fill_mark n V me own k (Inside source start) = filled_message source start (start_at (V source) start)
fill_mark n V me own k (Outside source start tag ints) = Ok (Message source start tag ints)
fill_mark n V me own k Inner = fill_inner n V me own k (start_at own k)
fill_mark n V me own k (Outer ints) = Ok (Joined ints)
fill_mark n V me own k (MarkMade comm) =
    if comm == 0 then Ok (Made 0 []) else fill_made comm V (asker_of n me own) k (start_at own k)
fill_mark n V me own k (MadeOutside comm members) = Ok (Made comm members)

-- an item before others, where nothing is missing
abbrev pub push_item : ℕ → Result Got Missing → Result (List Item) Missing → Result (List Item) Missing
push_item index (Err missing) rest = Err missing
push_item index (Ok got) (Err missing) = Err missing
push_item index (Ok got) (Ok items) = Ok ((record { index = index; got = got }) ∷ items)

-- the items of several marks, in order
abbrev pub fill_marks : ℕ → (ℕ → View) → ℕ → View → List ℕ → List Marked → Result (List Item) Missing
fill_marks n V me own starts [] = Ok []
fill_marks n V me own starts (marked ∷ items) =
    push_item marked.index (fill_mark n V me own (slice_index starts marked.index) marked.mark) (fill_marks n V me own starts items)

-- the reply of these items
abbrev pub as_took : Result (List Item) Missing → Result Reply Missing
as_took (Ok items) = Ok (Took items)
as_took (Err missing) = Err missing

-- the reply of an entry, or the first that it rests on and that is not there, in item order and then in member order
abbrev pub filled_reply : ℕ → (ℕ → View) → ℕ → View → Call → Entry → Result Reply Missing
filled_reply n V me own call EntrySent = Ok Done
filled_reply n V me own call Posted = Ok Done
filled_reply n V me own call Entered = Ok Done
filled_reply n V me own call Ended = Ok Done
filled_reply n V me own call (EntryTook items) = as_took (fill_marks n V me own (listed_by call) items)
filled_reply n V me own call EntryNotYet = Ok NotYet
filled_reply n V me own call (PeekedInside source start) = peeked_from source start (start_at (V source) start)
filled_reply n V me own call (PeekedOutside source start tag count) = Ok (Peeked source start tag count)
filled_reply n V me own call (EntryStopped halt) = Ok (Stopped halt)

-- what is missing where no reply can be made
abbrev pub missing_of : {A : Type 0} → Result A Missing → Option Missing
missing_of (Ok filled_reply) = None
missing_of (Err missing) = Some missing

-- the needed member that has not entered yet
abbrev pub absent_of : Result (List (List ℤ)) ℕ → Option ℕ
absent_of (Ok inputs) = None
absent_of (Err member) = Some member
