-- What the call of an MPI function does: its arguments are evaluated from left to right, and then checked. The checks come
-- in this order: communicators, counts and colours, ranks, tags, elements; of one kind from left to right.
-- (MPI 3.1, Point-to-Point Communication; Collective Communication; Groups, Contexts, and Communicators.)
use Rattle.std.specs.Prelude.{◌+◌, ◌*◌, ◌==◌, ℕ, ℤ, pos, negsuc, Bool, true, false, List, Option, Some, None, Result, Ok, Err, if◌then◌else◌, nat_le, length, slice_get}
use Rattle.std.specs.List.{list_any, position}
use Rattle.std.specs.Option.{option_to_list}
use Rattle.std.specs.Ordering.{int_eq}
use Rattle.mpi_call.specs.declared.call.Fault.{Fault}
use Rattle.mpi_call.specs.declared.call.Fault.TheVariants.{OutOfBounds, BadRank, BadTag, BadCount, BadComm}
use Rattle.mpi_call.specs.declared.call.Kind.{Kind}
use Rattle.mpi_call.specs.declared.call.Kind.TheVariants.{Barrier, Bcast, Reduce, Allreduce, Gather, Allgather, Scatter, Alltoall, Scan, Split, Dup}
use Rattle.mpi_call.specs.declared.call.Op.{Op}
use Rattle.mpi_call.specs.declared.call.Source.{Source}
use Rattle.mpi_call.specs.declared.call.Source.TheVariants.{Any as AnySource, From as FromRank, Null}
use Rattle.mpi_call.specs.declared.call.Tag.{Tag}
use Rattle.mpi_call.specs.declared.call.Tag.TheVariants.{Any as AnyTag, Is}
use Rattle.mpi_call.specs.declared.call.TakeMode.{TakeMode}
use Rattle.mpi_call.specs.declared.call.TakeMode.TheVariants.{All, Any as AnyOne, Several, TestAll, TestAny, TestSeveral}
use Rattle.mpi_call.specs.declared.limits.TheConstants.{GREATEST_TAG, MOST_INTS}
use Rattle.c_program.specs.declared.effect.AnswerCells.{AnswerCells}
use Rattle.c_program.specs.declared.effect.Effect.{Effect}
use Rattle.c_program.specs.declared.effect.Effect.TheVariants.{Nothing, Sets, Starts, Sends, Receives, Completes, Probes, Joins, Aborts}
use Rattle.c_program.specs.declared.effect.EnterInput.{EnterInput}
use Rattle.c_program.specs.declared.effect.EnterInput.TheVariants.{Nothing as EntersNothing, Cells as EntersCells, Pair}
use Rattle.c_program.specs.declared.effect.Into.{Into}
use Rattle.c_program.specs.declared.effect.Into.TheVariants.{Nowhere, Cells as IntoCells, Handle}
use Rattle.c_program.specs.declared.effect.Message.{Message}
use Rattle.c_program.specs.declared.effect.Rank.{Rank}
use Rattle.c_program.specs.declared.effect.Receive.{Receive}
use Rattle.c_program.specs.declared.effect.Start.TheVariants.{Send as StartSend, Receive as StartReceive}
use Rattle.c_program.specs.Tree as t
use Rattle.c_program.specs.Tree.{CollectiveCall, CommunicatorCall, CompletionCall, TypedExpr, MessageCall, MpiCall, Outgoing, ProbeCall, Reduction, Reference, SomeRequests}
use Rattle.c_program.specs.Cells.{Cells}
use Rattle.c_program.specs.State.{State, any_source, cell_at, members_known, no_cells, null, undefined}
use Rattle.c_program.specs.Values.{given, or_fault, range, value}

-- ---- checks

-- a communicator's number and members; the null handle has none, nor has any other that was not made
pub record Communicator : Type 0 where
  pub number : ℕ
  pub members : List ℕ

-- the communicator of a handle
abbrev pub communicator_of : Rank → State → ℤ → Result Communicator Fault
communicator_of rank s (negsuc c) = Err BadComm
communicator_of rank s (pos c) =
    given (or_fault BadComm (members_known rank.ranks s c)) (λ members. Ok (record { number = c; members = members }))

-- a count of ints
abbrev pub count_of : ℤ → Result ℕ Fault
count_of (negsuc n) = Err BadCount
count_of (pos n) = if nat_le n MOST_INTS then Ok n else Err BadCount

-- how many handles; their elements alone bound it
abbrev pub handles_of : ℤ → Result ℕ Fault
handles_of (negsuc n) = Err BadCount
handles_of (pos n) = Ok n

-- a second count that has to be the first one
abbrev pub same_count : ℕ → ℤ → Result ℕ Fault
same_count n other = given (count_of other) (λ m. if n == m then Ok n else Err BadCount)

-- a colour is from 0 on, or `MPI_UNDEFINED`
abbrev pub colour : ℤ → Result ℤ Fault
colour (pos n) = Ok (pos n)
colour (negsuc n) = if int_eq (negsuc n) undefined then Ok (negsuc n) else Err BadCount

-- a member's rank in the world, by its rank in the communicator
abbrev pub member : Communicator → ℤ → Result ℕ Fault
member comm (negsuc r) = Err BadRank
member comm (pos r) = or_fault BadRank (slice_get comm.members r)

-- the same, or nothing for `MPI_PROC_NULL`
abbrev pub some_rank : Result ℕ Fault → Result (Option ℕ) Fault
some_rank found = given found (λ rank. Ok (Some rank))

-- a destination as a rank of the world, or nothing for `MPI_PROC_NULL`
abbrev pub destination : Communicator → ℤ → Result (Option ℕ) Fault
destination comm r = if int_eq r null then Ok None else some_rank (member comm r)

-- the source of a receive or a probe
abbrev pub source_of : Communicator → ℤ → Result Source Fault
source_of comm r =
    if int_eq r null then Ok Null
    else (if int_eq r any_source then Ok AnySource
    else given (member comm r) (λ rank. Ok (FromRank rank)))

-- the tag of a send
abbrev pub tag_of : ℤ → Result ℕ Fault
tag_of (negsuc t) = Err BadTag
tag_of (pos t) = if nat_le t GREATEST_TAG then Ok t else Err BadTag

-- the tag of a receive or a probe
abbrev pub wanted_tag : ℤ → Result Tag Fault
wanted_tag t = if int_eq t null then Ok AnyTag else given (tag_of t) (λ t. Ok (Is t))

-- the first elements of a range, which has to have so many
abbrev pub first_of_range : ℕ → Cells → Result Cells Fault
first_of_range n cells = if nat_le n cells.length then Ok (record cells { length = n }) else Err OutOfBounds

-- the cell of a single answer
abbrev pub cell_of_answer : Cells → Result ℕ Fault
cell_of_answer cells = given (first_of_range 1 cells) (λ one. Ok one.from)

-- the same check of what may be left out
abbrev pub optional : {A B : Type 0} → (A → Result B Fault) → Option A → Result (Option B) Fault
optional one None = Ok None
optional one (Some x) = given (one x) (λ y. Ok (Some y))

-- the cells of a status, or of several; nothing where they are ignored
abbrev pub status : Option Reference → State → Result (Option Cells) Fault
status given_status s = optional (λ reference. range reference s) given_status

-- a rank of the world as one of the communicator; `MPI_UNDEFINED` where it is no member
abbrev pub rank_or_undefined : Option ℕ → ℤ
rank_or_undefined None = undefined
rank_or_undefined (Some r) = pos r

-- the rank of a process in the world as its rank among members
abbrev pub rank_among : List ℕ → ℕ → ℤ
rank_among members world_rank = rank_or_undefined (position (λ member. member == world_rank) members)

-- whether the rank that runs is this rank of the world
abbrev pub is_me : Rank → ℕ → Bool
is_me rank root = root == rank.number

-- the same of a root that isn't checked yet
abbrev pub is_given_root : Rank → Communicator → ℤ → Bool
is_given_root rank comm (negsuc r) = false
is_given_root rank comm (pos r) = list_any (is_me rank) (option_to_list (slice_get comm.members r))

-- the count of a status, 0 where it was ignored
abbrev pub status_count : Option ℕ → State → ℤ
status_count None s = pos 0
status_count (Some at) s = cell_at s (at + 2)

-- ---- sends and receives

-- a message on a communicator
abbrev pub message : Communicator → ℕ → ℕ → Cells → Bool → Message
message comm dest tag ints sync = record { comm = comm.number; dest = dest; tag = tag; ints = ints; sync = sync }

-- a receive on a communicator
abbrev pub receive : Communicator → Source → Tag → Cells → Receive
receive comm source tag buffer = record { comm = comm.number; source = source; tag = tag; buffer = buffer }

-- a send that returns once it is complete: a standard one is so at its start, for its message is buffered, a synchronous one
-- (`sync`) once it is received; to `MPI_PROC_NULL` none is made (MPI 3.1, 3.4 and 3.11)
abbrev pub sends : Communicator → Option ℕ → ℕ → Cells → Bool → Effect
sends comm None tag ints sync = Nothing
sends comm (Some dest) tag ints false = Starts (StartSend (message comm dest tag ints false)) None
sends comm (Some dest) tag ints true = Sends (message comm dest tag ints true)

-- a nonblocking send, standard or synchronous: to `MPI_PROC_NULL` it starts what is complete at once (MPI 3.1, 3.7.2 and 3.11)
abbrev pub sends_from : Communicator → Option ℕ → ℕ → Cells → Bool → ℕ → Effect
sends_from comm None tag ints sync request = Starts (StartReceive (receive comm Null (Is tag) no_cells)) (Some request)
sends_from comm (Some dest) tag ints sync request = Starts (StartSend (message comm dest tag ints sync)) (Some request)

-- the send of `MPI_Sendrecv`, which is a standard one
abbrev pub send_after : Communicator → Option ℕ → ℕ → Cells → Option Message
send_after comm None tag ints = None
send_after comm (Some dest) tag ints = Some (message comm dest tag ints false)

-- ---- completion

-- a completion that answers nothing yet
abbrev pub answers : AnswerCells
answers = record { flag = None; index = None; outcount = None; indices = None; statuses = None }

-- the completion of what some handles name
abbrev pub completes : Cells → TakeMode → AnswerCells → Result Effect Fault
completes requests mode answer = Ok (Completes requests mode answer)

-- ---- collectives

-- all that matters of a collective but its communicator and where its ints come from and go to
pub record CollectiveShape : Type 0 where
  pub kind : Kind
  pub root : Option ℕ
  pub op : Option Op
  pub count : ℕ

-- the shape with these parts
abbrev pub shape_of : Kind → Option ℕ → Option Op → ℕ → CollectiveShape
shape_of kind root op count = record { kind = kind; root = root; op = op; count = count }

-- a rank joins a collective
abbrev pub joins : Communicator → CollectiveShape → EnterInput → Into → Result Effect Fault
joins comm shape entered into =
    Ok (Joins (record { comm = comm.number; kind = shape.kind; root = shape.root; op = shape.op; count = shape.count; entered = entered; into = into }))

-- what only the root enters, or gets
abbrev pub at_root : {A : Type 0} → Bool → A → Result A Fault → Result A Fault
at_root true other rooted = rooted
at_root false other rooted = Ok other

-- so many ints are entered
abbrev pub enters : ℕ → Cells → Result EnterInput Fault
enters n cells = given (first_of_range n cells) (λ ints. Ok (EntersCells ints))

-- so many ints are got
abbrev pub gets : ℕ → Cells → Result Into Fault
gets n cells = given (first_of_range n cells) (λ ints. Ok (IntoCells ints))

-- how many pieces of the members
abbrev pub ints_for_all_members : Communicator → ℕ → ℕ
ints_for_all_members comm count = length comm.members * count

-- ---- the functions

-- `MPI_Send`, and `MPI_Ssend` with `sync` (MPI 3.1, 3.2 and 3.4)
abbrev pub send_effect : Rank → Outgoing → TypedExpr → Bool → State → Result Effect Fault
send_effect rank outgoing comm sync s =
    given (range outgoing.buffer.cells s) (λ buffer_cells. given (value outgoing.buffer.count s) (λ buffer_count. given (value outgoing.dest s) (λ dest. given (value outgoing.tag s) (λ tag. given (value comm s) (λ comm.
    given (communicator_of rank s comm) (λ comm.
    given (count_of buffer_count) (λ buffer_count.
    given (destination comm dest) (λ dest.
    given (tag_of tag) (λ tag.
    given (first_of_range buffer_count buffer_cells) (λ buffer_cells.
    Ok (sends comm dest tag buffer_cells sync)))))))))))

-- `MPI_Isend`, and `MPI_Issend` with `sync` (MPI 3.1, 3.7.2)
abbrev pub isend_effect : Rank → Outgoing → TypedExpr → Reference → Bool → State → Result Effect Fault
isend_effect rank outgoing comm request sync s =
    given (range outgoing.buffer.cells s) (λ buffer_cells. given (value outgoing.buffer.count s) (λ buffer_count. given (value outgoing.dest s) (λ dest. given (value outgoing.tag s) (λ tag. given (value comm s) (λ comm. given (range request s) (λ request.
    given (communicator_of rank s comm) (λ comm.
    given (count_of buffer_count) (λ buffer_count.
    given (destination comm dest) (λ dest.
    given (tag_of tag) (λ tag.
    given (first_of_range buffer_count buffer_cells) (λ buffer_cells.
    given (cell_of_answer request) (λ request.
    Ok (sends_from comm dest tag buffer_cells sync request)))))))))))))

-- sends and receives (MPI 3.1, 3.2, 3.4, 3.7.2 and 3.10)
abbrev pub message_effect : Rank → MessageCall → State → Result Effect Fault
message_effect rank (t.send outgoing comm) s = send_effect rank outgoing comm false s
message_effect rank (t.ssend outgoing comm) s = send_effect rank outgoing comm true s
message_effect rank (t.recv incoming comm kept) s =
    given (range incoming.buffer.cells s) (λ buffer_cells. given (value incoming.buffer.count s) (λ buffer_count. given (value incoming.source s) (λ source. given (value incoming.tag s) (λ tag. given (value comm s) (λ comm. given (status kept s) (λ kept.
    given (communicator_of rank s comm) (λ comm.
    given (count_of buffer_count) (λ buffer_count.
    given (source_of comm source) (λ source.
    given (wanted_tag tag) (λ tag.
    given (first_of_range buffer_count buffer_cells) (λ buffer_cells.
    given (optional cell_of_answer kept) (λ kept.
    Ok (Receives (receive comm source tag buffer_cells) None kept)))))))))))))
message_effect rank (t.isend outgoing comm request) s = isend_effect rank outgoing comm request false s
message_effect rank (t.issend outgoing comm request) s = isend_effect rank outgoing comm request true s
message_effect rank (t.irecv incoming comm request) s =
    given (range incoming.buffer.cells s) (λ buffer_cells. given (value incoming.buffer.count s) (λ buffer_count. given (value incoming.source s) (λ source. given (value incoming.tag s) (λ tag. given (value comm s) (λ comm. given (range request s) (λ request.
    given (communicator_of rank s comm) (λ comm.
    given (count_of buffer_count) (λ buffer_count.
    given (source_of comm source) (λ source.
    given (wanted_tag tag) (λ tag.
    given (first_of_range buffer_count buffer_cells) (λ buffer_cells.
    given (cell_of_answer request) (λ request.
    Ok (Starts (StartReceive (receive comm source tag buffer_cells)) (Some request))))))))))))))
message_effect rank (t.sendrecv outgoing incoming comm kept) s =
    given (range outgoing.buffer.cells s) (λ out_cells. given (value outgoing.buffer.count s) (λ out_count. given (value outgoing.dest s) (λ dest. given (value outgoing.tag s) (λ send_tag. given (range incoming.buffer.cells s) (λ buffer_cells. given (value incoming.buffer.count s) (λ buffer_count. given (value incoming.source s) (λ source. given (value incoming.tag s) (λ tag. given (value comm s) (λ comm. given (status kept s) (λ kept.
    given (communicator_of rank s comm) (λ comm.
    given (count_of out_count) (λ out_count.
    given (count_of buffer_count) (λ buffer_count.
    given (destination comm dest) (λ dest.
    given (source_of comm source) (λ source.
    given (tag_of send_tag) (λ send_tag.
    given (wanted_tag tag) (λ tag.
    given (first_of_range out_count out_cells) (λ out_cells.
    given (first_of_range buffer_count buffer_cells) (λ buffer_cells.
    given (optional cell_of_answer kept) (λ kept.
    Ok (Receives (receive comm source tag buffer_cells) (send_after comm dest send_tag out_cells) kept)))))))))))))))))))))

-- `MPI_Waitsome` and `MPI_Testsome`
abbrev pub completes_some : TakeMode → SomeRequests → State → Result Effect Fault
completes_some mode several s =
    given (value several.count s) (λ count. given (range several.requests s) (λ requests. given (range several.outcount s) (λ outcount. given (range several.indices s) (λ indices. given (status several.statuses s) (λ kept.
    given (handles_of count) (λ count.
    given (first_of_range count requests) (λ requests.
    given (cell_of_answer outcount) (λ outcount.
    given (first_of_range count indices) (λ indices.
    given (optional (first_of_range count) kept) (λ kept.
    completes requests mode (record answers { outcount = Some outcount; indices = Some indices; statuses = kept })))))))))))

-- the completion of requests (MPI 3.1, 3.7.3 and 3.7.5)
abbrev pub completion_effect : CompletionCall → State → Result Effect Fault
completion_effect (t.wait requests kept) s =
    given (range requests s) (λ requests. given (status kept s) (λ kept.
    given (first_of_range 1 requests) (λ requests.
    given (optional (first_of_range 1) kept) (λ kept.
    completes requests All (record answers { statuses = kept })))))
completion_effect (t.test requests flag kept) s =
    given (range requests s) (λ requests. given (range flag s) (λ flag. given (status kept s) (λ kept.
    given (first_of_range 1 requests) (λ requests.
    given (cell_of_answer flag) (λ flag.
    given (optional (first_of_range 1) kept) (λ kept.
    completes requests TestAll (record answers { flag = Some flag; statuses = kept })))))))
completion_effect (t.waitany count requests index kept) s =
    given (value count s) (λ count. given (range requests s) (λ requests. given (range index s) (λ index. given (status kept s) (λ kept.
    given (handles_of count) (λ count.
    given (first_of_range count requests) (λ requests.
    given (cell_of_answer index) (λ index.
    given (optional (first_of_range 1) kept) (λ kept.
    completes requests AnyOne (record answers { index = Some index; statuses = kept })))))))))
completion_effect (t.testany count requests index flag kept) s =
    given (value count s) (λ count. given (range requests s) (λ requests. given (range index s) (λ index. given (range flag s) (λ flag. given (status kept s) (λ kept.
    given (handles_of count) (λ count.
    given (first_of_range count requests) (λ requests.
    given (cell_of_answer index) (λ index.
    given (cell_of_answer flag) (λ flag.
    given (optional (first_of_range 1) kept) (λ kept.
    completes requests TestAny (record answers { flag = Some flag; index = Some index; statuses = kept })))))))))))
completion_effect (t.waitall count requests kept) s =
    given (value count s) (λ count. given (range requests s) (λ requests. given (status kept s) (λ kept.
    given (handles_of count) (λ count.
    given (first_of_range count requests) (λ requests.
    given (optional (first_of_range count) kept) (λ kept.
    completes requests All (record answers { statuses = kept })))))))
completion_effect (t.testall count requests flag kept) s =
    given (value count s) (λ count. given (range requests s) (λ requests. given (range flag s) (λ flag. given (status kept s) (λ kept.
    given (handles_of count) (λ count.
    given (first_of_range count requests) (λ requests.
    given (cell_of_answer flag) (λ flag.
    given (optional (first_of_range count) kept) (λ kept.
    completes requests TestAll (record answers { flag = Some flag; statuses = kept })))))))))
completion_effect (t.waitsome several) s = completes_some Several several s
completion_effect (t.testsome several) s = completes_some TestSeveral several s

-- probes, and what a status tells (MPI 3.1, 3.8.1 and 3.2.5)
abbrev pub probe_effect : Rank → ProbeCall → State → Result Effect Fault
probe_effect rank (t.probe source tag comm kept) s =
    given (value source s) (λ source. given (value tag s) (λ tag. given (value comm s) (λ comm. given (status kept s) (λ kept.
    given (communicator_of rank s comm) (λ comm.
    given (source_of comm source) (λ source.
    given (wanted_tag tag) (λ tag.
    given (optional cell_of_answer kept) (λ kept.
    Ok (Probes comm.number source tag true None kept)))))))))
probe_effect rank (t.iprobe source tag comm flag kept) s =
    given (value source s) (λ source. given (value tag s) (λ tag. given (value comm s) (λ comm. given (range flag s) (λ flag. given (status kept s) (λ kept.
    given (communicator_of rank s comm) (λ comm.
    given (source_of comm source) (λ source.
    given (wanted_tag tag) (λ tag.
    given (cell_of_answer flag) (λ flag.
    given (optional cell_of_answer kept) (λ kept.
    Ok (Probes comm.number source tag false (Some flag) kept)))))))))))
probe_effect rank (t.get_count kept into) s =
    given (status kept s) (λ kept. given (range into s) (λ into.
    given (optional cell_of_answer kept) (λ kept.
    given (cell_of_answer into) (λ into.
    Ok (Sets into (status_count kept s))))))

-- `MPI_Allreduce` and `MPI_Scan`
abbrev pub reduces_for_all : Rank → Kind → Reduction → TypedExpr → State → Result Effect Fault
reduces_for_all rank kind reduction comm s =
    given (range reduction.send s) (λ out. given (range reduction.receive s) (λ buffer. given (value reduction.count s) (λ count. given (value comm s) (λ comm.
    given (communicator_of rank s comm) (λ comm.
    given (count_of count) (λ count.
    given (enters count out) (λ entered.
    given (gets count buffer) (λ into.
    joins comm (shape_of kind None (Some reduction.op) count) entered into))))))))

-- collectives (MPI 3.1, 5.3 to 5.9 and 5.11)
abbrev pub collective_effect : Rank → CollectiveCall → State → Result Effect Fault
collective_effect rank (t.barrier comm) s =
    given (value comm s) (λ comm.
    given (communicator_of rank s comm) (λ comm.
    joins comm (shape_of Barrier None None 0) EntersNothing Nowhere))
collective_effect rank (t.bcast buffer root comm) s =
    given (range buffer.cells s) (λ buffer_cells. given (value buffer.count s) (λ buffer_count. given (value root s) (λ root. given (value comm s) (λ comm.
    given (communicator_of rank s comm) (λ comm.
    given (count_of buffer_count) (λ buffer_count.
    given (member comm root) (λ root.
    given (first_of_range buffer_count buffer_cells) (λ buffer_cells.
    joins comm (shape_of Bcast (Some root) None buffer_count) (if is_me rank root then EntersCells buffer_cells else EntersNothing) (IntoCells buffer_cells)))))))))
collective_effect rank (t.gather out buffer root comm) s =
    given (range out.cells s) (λ out_cells. given (value out.count s) (λ out_count. given (range buffer.cells s) (λ buffer_cells. given (value buffer.count s) (λ buffer_count. given (value root s) (λ root. given (value comm s) (λ comm.
    given (communicator_of rank s comm) (λ comm.
    given (count_of out_count) (λ out_count.
    given (at_root (is_given_root rank comm root) out_count (same_count out_count buffer_count)) (λ count.
    given (member comm root) (λ root.
    given (enters count out_cells) (λ entered.
    given (at_root (is_me rank root) Nowhere (gets (ints_for_all_members comm count) buffer_cells)) (λ into.
    joins comm (shape_of Gather (Some root) None count) entered into))))))))))))
collective_effect rank (t.scatter out buffer root comm) s =
    given (range out.cells s) (λ out_cells. given (value out.count s) (λ out_count. given (range buffer.cells s) (λ buffer_cells. given (value buffer.count s) (λ buffer_count. given (value root s) (λ root. given (value comm s) (λ comm.
    given (communicator_of rank s comm) (λ comm.
    given (count_of buffer_count) (λ buffer_count.
    given (at_root (is_given_root rank comm root) buffer_count (same_count buffer_count out_count)) (λ count.
    given (member comm root) (λ root.
    given (at_root (is_me rank root) EntersNothing (enters (ints_for_all_members comm count) out_cells)) (λ entered.
    given (gets count buffer_cells) (λ into.
    joins comm (shape_of Scatter (Some root) None count) entered into))))))))))))
collective_effect rank (t.allgather out buffer comm) s =
    given (range out.cells s) (λ out_cells. given (value out.count s) (λ out_count. given (range buffer.cells s) (λ buffer_cells. given (value buffer.count s) (λ buffer_count. given (value comm s) (λ comm.
    given (communicator_of rank s comm) (λ comm.
    given (count_of out_count) (λ out_count.
    given (same_count out_count buffer_count) (λ count.
    given (enters count out_cells) (λ entered.
    given (gets (ints_for_all_members comm count) buffer_cells) (λ into.
    joins comm (shape_of Allgather None None count) entered into))))))))))
collective_effect rank (t.alltoall out buffer comm) s =
    given (range out.cells s) (λ out_cells. given (value out.count s) (λ out_count. given (range buffer.cells s) (λ buffer_cells. given (value buffer.count s) (λ buffer_count. given (value comm s) (λ comm.
    given (communicator_of rank s comm) (λ comm.
    given (count_of out_count) (λ out_count.
    given (same_count out_count buffer_count) (λ count.
    given (enters (ints_for_all_members comm count) out_cells) (λ entered.
    given (gets (ints_for_all_members comm count) buffer_cells) (λ into.
    joins comm (shape_of Alltoall None None count) entered into))))))))))
collective_effect rank (t.reduce reduction root comm) s =
    given (range reduction.send s) (λ out. given (range reduction.receive s) (λ buffer. given (value reduction.count s) (λ count. given (value root s) (λ root. given (value comm s) (λ comm.
    given (communicator_of rank s comm) (λ comm.
    given (count_of count) (λ count.
    given (member comm root) (λ root.
    given (enters count out) (λ entered.
    given (at_root (is_me rank root) Nowhere (gets count buffer)) (λ into.
    joins comm (shape_of Reduce (Some root) (Some reduction.op) count) entered into))))))))))
collective_effect rank (t.allreduce reduction comm) s = reduces_for_all rank Allreduce reduction comm s
collective_effect rank (t.scan reduction comm) s = reduces_for_all rank Scan reduction comm s

-- communicators (MPI 3.1, 6.4)
abbrev pub communicator_effect : Rank → CommunicatorCall → State → Result Effect Fault
communicator_effect rank (t.comm_size comm into) s =
    given (value comm s) (λ comm. given (range into s) (λ into.
    given (communicator_of rank s comm) (λ comm.
    given (cell_of_answer into) (λ into.
    Ok (Sets into (pos (length comm.members)))))))
communicator_effect rank (t.comm_rank comm into) s =
    given (value comm s) (λ comm. given (range into s) (λ into.
    given (communicator_of rank s comm) (λ comm.
    given (cell_of_answer into) (λ into.
    Ok (Sets into (rank_among comm.members rank.number))))))
communicator_effect rank (t.comm_dup comm into) s =
    given (value comm s) (λ comm. given (range into s) (λ into.
    given (communicator_of rank s comm) (λ comm.
    given (cell_of_answer into) (λ into.
    joins comm (shape_of Dup None None 0) EntersNothing (Handle into)))))
communicator_effect rank (t.comm_split comm color key into) s =
    given (value comm s) (λ comm. given (value color s) (λ color. given (value key s) (λ key. given (range into s) (λ into.
    given (communicator_of rank s comm) (λ comm.
    given (colour color) (λ color.
    given (cell_of_answer into) (λ into.
    joins comm (shape_of Split None None 0) (Pair color key) (Handle into))))))))
communicator_effect rank (t.comm_free into) s =
    given (range into s) (λ into.
    given (cell_of_answer into) (λ into.
    Ok (Sets into null)))

-- all, with `MPI_Init`, `MPI_Finalize` and `MPI_Abort` (MPI 3.1, 8.7)
abbrev pub effect_of : Rank → MpiCall → State → Result Effect Fault
effect_of rank t.init s = Ok Nothing
effect_of rank t.finalize s = Ok Nothing
effect_of rank (t.abort comm code) s =
    given (value comm s) (λ comm. given (value code s) (λ code.
    given (communicator_of rank s comm) (λ comm.
    Ok (Aborts code))))
effect_of rank (t.message call) s = message_effect rank call s
effect_of rank (t.completion call) s = completion_effect call s
effect_of rank (t.probing call) s = probe_effect rank call s
effect_of rank (t.collective call) s = collective_effect rank call s
effect_of rank (t.communicator call) s = communicator_effect rank call s
