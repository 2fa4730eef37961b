-- Which replies have the shape of a call, after what the rank has seen.
use Rattle.std.specs.Prelude.{◌+◌, ℕ, ℤ, List, [], ◌∷◌, Option, Some, None, Bool, true, false, not, ◌&&◌, ◌||◌, ◌==◌, nat_lt, nat_le, map, length, slice_index, is_some}
use Rattle.std.specs.List.{list_all}
use Rattle.std.specs.Ordering.{int_eq}
use Rattle.mpi_call.specs.declared.call.Call.{Call}
use Rattle.mpi_call.specs.declared.call.Call.TheVariants.{Send, Post, Enter, Take, Peek, Abort, Trap, End}
use Rattle.mpi_call.specs.declared.call.Fault.{Fault}
use Rattle.mpi_call.specs.declared.call.Halt.{Halt}
use Rattle.mpi_call.specs.declared.call.Halt.TheVariants.{Aborted, Trapped, Truncated, Mismatched, BadRequest}
use Rattle.mpi_call.specs.declared.call.Kind.TheVariants.{Dup}
use Rattle.mpi_call.specs.declared.call.Source.TheVariants.{Null}
use Rattle.mpi_call.specs.declared.call.TakeMode.{TakeMode}
use Rattle.mpi_call.specs.declared.call.TakeMode.TheVariants.{All, Any as AnyOne, TestAll, TestAny, TestSeveral}
use Rattle.mpi_call.specs.declared.reply.Got.{Got}
use Rattle.mpi_call.specs.declared.reply.Got.TheVariants.{Sent, Nothing, Message, Joined, Made}
use Rattle.mpi_call.specs.declared.reply.Item.{Item}
use Rattle.mpi_call.specs.declared.reply.Reply.{Reply}
use Rattle.mpi_call.specs.declared.reply.Reply.TheVariants.{Done, Took, NotYet, Peeked, Stopped}
use Rattle.mpi_call.specs.Acceptance.{source_agrees, tag_agrees}
use Rattle.mpi_call.specs.Calls.{comm_of, is_enter, listed_by, makes}
use Rattle.mpi_call.specs.Collectives.{is_uncoloured, result_length}
use Rattle.mpi_call.specs.Halts.{same_fault}
use Rattle.mpi_call.specs.Members.{is_member, is_distinct}
use Rattle.run_model.specs.Lists.{are_below, same_ranks}
use Rattle.run_model.specs.Views.{View, start_at, taken_of}
use Rattle.run_model.specs.Communicators.{members_for_rank}

-- the Test family
abbrev pub is_test : TakeMode → Bool
is_test TestAll = true
is_test TestAny = true
is_test TestSeveral = true
is_test mode = false

-- indices rise from `low` on and stay below `len`
abbrev pub rise_within : ℕ → ℕ → List ℕ → Bool
rise_within low len [] = true
rise_within low len (index ∷ indices) = nat_le low index && (nat_lt index len && rise_within (index + 1) len indices)

-- how many of the listed starts a mode completes: all of them, one, or at least one
abbrev pub has_count : TakeMode → ℕ → ℕ → Bool
has_count All starts items = items == starts
has_count TestAll starts items = items == starts
has_count AnyOne starts items = items == 1
has_count TestAny starts items = items == 1
has_count mode starts items = nat_lt 0 items

-- the start was made and not taken
abbrev pub can_take : View → ℕ → Bool
can_take own k = is_some (start_at own k) && not (is_member (taken_of own) k)

-- a Dup
abbrev pub is_dup : Call → Bool
is_dup (Enter comm Dup root op count ints) = true
is_dup call = false

-- a new communicator's members, for an Enter of rank `me` on one with the members `old`
abbrev pub are_members : ℕ → ℕ → Call → List ℕ → List ℕ → Bool
are_members n me enter old members =
    are_below n members
    && (is_distinct members && (is_member members me && (not (is_dup enter) || same_ranks old members)))

-- the result of an Enter that makes no communicator, by its length
abbrev pub is_sized : ℕ → ℕ → View → Call → List ℤ → Bool
is_sized n me own enter ints = length ints == result_length enter (members_for_rank n own (comm_of enter)) me

-- a halt that names the rank itself fits only the call that makes it
abbrev pub lists_start : ℕ → Call → Bool
lists_start k call = is_member (listed_by call) k

-- an Abort with this code
abbrev pub is_abort_of : ℤ → Call → Bool
is_abort_of code (Abort other) = int_eq code other
is_abort_of code call = false

-- a Trap with this fault
abbrev pub is_trap_of : Fault → Call → Bool
is_trap_of fault (Trap other) = same_fault fault other
is_trap_of fault call = false

-- a halt may be the reply to a call
abbrev pub halt_fits : ℕ → Call → Halt → Bool
halt_fits me call (Aborted rank code) = not (rank == me) || is_abort_of code call
halt_fits me call (Trapped rank fault) = not (rank == me) || is_trap_of fault call
halt_fits me call (Truncated rank start) = not (rank == me) || lists_start start call
halt_fits me call (Mismatched rank) = not (rank == me) || is_enter call
halt_fits me call (BadRequest rank start) = not (rank == me) || lists_start start call
halt_fits me call halt = true

-- what the completion of a start gives has the start's shape
abbrev pub got_fits : ℕ → ℕ → View → Option Call → Got → Bool
got_fits n me own None got = false
got_fits n me own (Some (Send comm dest tag ints sync)) Sent = true
got_fits n me own (Some (Post comm Null tag room)) Nothing = true
got_fits n me own (Some (Post comm from tag room)) (Message source start t ints) =
    source_agrees from source && (tag_agrees tag t && nat_le (length ints) room)
got_fits n me own (Some enter) (Joined ints) =
    is_enter enter && (not (makes enter) && is_sized n me own enter ints)
got_fits n me own (Some enter) (Made comm []) = makes enter && (is_uncoloured enter && (comm == 0))
got_fits n me own (Some enter) (Made comm (m ∷ members)) =
    makes enter
    && (not (is_uncoloured enter)
    && (not (comm == 0) && are_members n me enter (members_for_rank n own (comm_of enter)) (m ∷ members)))
got_fits n me own start got = false

-- what each item gives has the shape of its start
abbrev pub gots_fit : ℕ → ℕ → View → List ℕ → List Item → Bool
gots_fit n me own starts [] = true
gots_fit n me own starts (item ∷ items) =
    got_fits n me own (start_at own (slice_index starts item.index)) item.got && gots_fit n me own starts items

-- the reply has the shape of rank `me`'s call, after what it has seen
abbrev pub has_shape : ℕ → ℕ → View → Call → Reply → Bool
has_shape n me own call (Stopped halt) = halt_fits me call halt
has_shape n me own (Send comm dest tag ints sync) Done = true
has_shape n me own (Post comm source tag room) Done = true
has_shape n me own (Enter comm kind root op count ints) Done = true
has_shape n me own End Done = true
has_shape n me own (Take starts mode) NotYet = is_test mode
has_shape n me own (Peek comm source tag wait) NotYet = not wait
has_shape n me own (Peek comm from tag wait) (Peeked source start t count) = source_agrees from source && tag_agrees tag t
has_shape n me own (Take starts mode) (Took items) =
    has_count mode (length starts) (length items)
    && (rise_within 0 (length starts) (map (λ (item : Item). item.index) items)
    && (list_all (λ k. can_take own k) starts && gots_fit n me own starts items))
has_shape n me own call reply = false
