-- What follows on the effect of an MPI call: its primitive calls, and what their replies change.
-- (MPI 3.1, Point-to-Point Communication, "Communication Completion" and "Probe"; Collective Communication.)
use Rattle.std.specs.Prelude.{◌+◌, ◌*◌, ◌++◌, ◌==◌, ◌||◌, ℕ, suc, ℤ, pos, negsuc, Bool, List, [], ◌∷◌, Option, Some, None, if◌then◌else◌, nat_lt, nat_le, length, map, slice_get}
use Rattle.mpi_call.specs.declared.call.Call.{Call}
use Rattle.mpi_call.specs.declared.call.Call.TheVariants.{Send, Post, Enter, Take, Peek, Abort}
use Rattle.mpi_call.specs.declared.call.Fault.TheVariants.{OutOfBounds}
use Rattle.mpi_call.specs.declared.call.Source.TheVariants.{Null}
use Rattle.mpi_call.specs.declared.call.TakeMode.{TakeMode}
use Rattle.mpi_call.specs.declared.call.TakeMode.TheVariants.{All, Any as AnyOne, TestAll, TestAny}
use Rattle.mpi_call.specs.declared.reply.Got.{Got}
use Rattle.mpi_call.specs.declared.reply.Got.TheVariants.{Nothing as GotNothing, Message as GotMessage, Joined, Made}
use Rattle.mpi_call.specs.declared.reply.Item.{Item}
use Rattle.mpi_call.specs.declared.reply.Reply.{Reply}
use Rattle.mpi_call.specs.declared.reply.Reply.TheVariants.{Took, Peeked}
use Rattle.run_model.specs.Allowed.{takes_all}
use Rattle.run_model.specs.Communicators.{or_none}
use Rattle.c_program.specs.declared.effect.AnswerCells.{AnswerCells}
use Rattle.c_program.specs.declared.effect.Collective.{Collective}
use Rattle.c_program.specs.declared.effect.Effect.{Effect}
use Rattle.c_program.specs.declared.effect.Effect.TheVariants.{Nothing, Sets, Starts, Sends, Receives, Completes, Probes, Joins, Aborts}
use Rattle.c_program.specs.declared.effect.EnterInput.{EnterInput}
use Rattle.c_program.specs.declared.effect.EnterInput.TheVariants.{Nothing as EntersNothing, Cells as EntersCells, Pair}
use Rattle.c_program.specs.declared.effect.Into.{Into}
use Rattle.c_program.specs.declared.effect.Into.TheVariants.{Nowhere, Cells as IntoCells, Handle}
use Rattle.c_program.specs.declared.effect.Message.{Message}
use Rattle.c_program.specs.declared.effect.Rank.{Rank}
use Rattle.c_program.specs.declared.effect.Receive.{Receive}
use Rattle.c_program.specs.declared.effect.Start.{Start}
use Rattle.c_program.specs.declared.effect.Start.TheVariants.{Send as StartSend, Receive as StartReceive}
use Rattle.c_program.specs.Courses.{Course, Asks, asks_last, trapped}
use Rattle.c_program.specs.Effects.{rank_among}
use Rattle.c_program.specs.Cells.{Cells}
use Rattle.c_program.specs.declared.state.MadeCommunicator.{MadeCommunicator}
use Rattle.c_program.specs.State.{State, any_source, ints_in_cells, members_known, no_cells, null, put, put_all, put_some, undefined}
use Rattle.c_program.specs.declared.state.Begun.{Begun}

-- goes on from a state
abbrev pub Onward : Type 0
Onward = State → Course

-- ---- starts

-- the call of a send, with its ints as they are now
abbrev pub send_call : Message → State → Call
send_call m s = Send m.comm m.dest m.tag (ints_in_cells m.ints s) m.sync

-- the call of a receive
abbrev pub post_call : Receive → Call
post_call r = Post r.comm r.source r.tag r.buffer.length

-- the call of a start
abbrev pub start_call : Start → State → Call
start_call (StartSend m) s = send_call m s
start_call (StartReceive r) s = post_call r

-- a start whose message goes to no cells
abbrev pub sent : ℕ → Begun
sent comm = record { comm = comm; buffer = no_cells }

-- a start whose message goes to cells
abbrev pub receiving : Receive → Begun
receiving r = record { comm = r.comm; buffer = r.buffer }

-- what is kept of a start
abbrev pub begun_by : Start → Begun
begun_by (StartSend m) = sent m.comm
begun_by (StartReceive r) = receiving r

-- one start more; its number is how many there were
abbrev pub begun : Begun → State → State
begun start s = record s { starts = s.starts ++ start ∷ [] }

-- the number of the next start
abbrev pub number_of_next : State → ℕ
number_of_next s = length s.starts

-- ---- what replies change

-- the source, the tag and the count of a status, where it is asked for
abbrev pub put_status : Option ℕ → ℤ → ℤ → ℤ → State → State
put_status None source tag count s = s
put_status (Some at) source tag count s = put_all at (source ∷ (tag ∷ (count ∷ []))) s

-- the status of a completed send and of a null handle
abbrev pub put_empty : Option ℕ → State → State
put_empty at s = put_status at any_source null (pos 0) s

-- the status of a receive or a probe of `MPI_PROC_NULL`
abbrev pub put_nothing : Option ℕ → State → State
put_nothing at s = put_status at null null (pos 0) s

-- the sender as a rank of the communicator
abbrev pub source_in : ℕ → ℕ → ℕ → State → ℤ
source_in n comm source s = rank_among (or_none (members_known n s comm)) source

-- the start of a number
abbrev pub begun_at : ℕ → State → Begun
begun_at number s = or_sent (slice_get s.starts number)
  where
    or_sent : Option Begun → Begun
    or_sent None = sent 0
    or_sent (Some start) = start

-- cells that the ints of a message go to stand: only those that are reached count
abbrev pub has_cells_for : Cells → List ℤ → State → Bool
has_cells_for buffer ints s = (length ints == 0) || nat_le (buffer.from + length ints) (length s.cells)

-- a completed start: its message, and its status; nothing where a cell of its message no longer stands
abbrev pub completed : ℕ → Begun → Option ℕ → Got → State → Option State
completed n start status (GotMessage source number tag ints) s =
    if has_cells_for start.buffer ints s
    then Some (put_status status (source_in n start.comm source s) (pos tag) (pos (length ints)) (put_all start.buffer.from ints s))
    else None
completed n start status GotNothing s = Some (put_nothing status s)
completed n start status got s = Some (put_empty status s)

-- communicators that a reply tells of
abbrev pub made_by : Got → List MadeCommunicator
made_by (Made comm members) = if comm == 0 then [] else record { comm = comm; members = members } ∷ []
made_by got = []

-- the communicators that items tell of, in order
abbrev pub made_by_all : List Item → List MadeCommunicator
made_by_all [] = []
made_by_all (item ∷ items) = made_by item.got ++ made_by_all items

-- a state that has learned what items tell of
abbrev pub with_communicators : List Item → State → State
with_communicators items s = record s { made = s.made ++ made_by_all items }

-- the items of a reply
abbrev pub reply_items : Reply → List Item
reply_items (Took items) = items
reply_items reply = []

-- ---- completion calls

-- the handles of starts, each with its place: a handle that is null, or the number of no start, isn't one
pub record Active : Type 0 where
  pub place : ℕ
  pub start : ℕ

-- a handle at a place, as a start, where there are so many starts
abbrev pub active_at : ℕ → ℕ → ℤ → List Active
active_at starts place (negsuc v) = []
active_at starts place (pos v) = if nat_lt v starts then record { place = place; start = v } ∷ [] else []

-- the same of handles from a place on
abbrev pub active_from : ℕ → ℕ → List ℤ → List Active
active_from starts place [] = []
active_from starts place (handle ∷ handles) = active_at starts place handle ++ active_from starts (suc place) handles

-- the starts of handles
abbrev pub active_in : Cells → State → List Active
active_in requests s = active_from (length s.starts) 0 (ints_in_cells requests s)

-- the status at a place of an array of statuses
abbrev pub status_at : Option Cells → ℕ → Option ℕ
status_at None place = None
status_at (Some statuses) place = Some (statuses.from + place * statuses.width)

-- the place of a status: that of the handle, the only one, or the first ones in the order of the items
abbrev pub status_place : TakeMode → ℕ → ℕ → ℕ
status_place All place number = place
status_place TestAll place number = place
status_place AnyOne place number = 0
status_place TestAny place number = 0
status_place mode place number = number

-- the handles that aren't one get the empty status, where each handle has a status
abbrev pub put_empties : Option Cells → ℕ → ℕ → List ℤ → State → State
put_empties statuses starts place [] s = s
put_empties statuses starts place (handle ∷ handles) s =
    put_empties statuses starts (suc place) handles (by_place (active_at starts place handle))
  where
    by_place : List Active → State
    by_place [] = put_empty (status_at statuses place) s
    by_place (one ∷ more) = s

-- the empty statuses of a call that has one for each handle
abbrev pub empties : Cells → TakeMode → AnswerCells → State → State
empties requests mode answer s =
    if takes_all mode then put_empties answer.statuses (length s.starts) 0 (ints_in_cells requests s) s else s

-- the start at an index
abbrev pub active_or_none : List Active → ℕ → Active
active_or_none active index = or_first (slice_get active index)
  where
    or_first : Option Active → Active
    or_first None = record { place = 0; start = 0 }
    or_first (Some one) = one

-- goes on with what a completed start leaves, or traps
abbrev pub or_trap : Option State → State → Onward → Course
or_trap None s go = trapped OutOfBounds s
or_trap (Some t) s go = go t

-- a completion call: how many ranks there are, where the handles stand, which starts it takes, and what it answers besides
pub record Completing : Type 0 where
  pub ranks : ℕ
  pub requests : Cells
  pub mode : TakeMode
  pub answer : AnswerCells

-- the completion call with these parts
abbrev pub completing_of : ℕ → Cells → TakeMode → AnswerCells → Completing
completing_of n requests mode answer = record { ranks = n; requests = requests; mode = mode; answer = answer }

-- an item's message and status
abbrev pub item_completed : Completing → Active → ℕ → Got → State → Option State
item_completed call one number got s =
    completed call.ranks (begun_at one.start s) (status_at call.answer.statuses (status_place call.mode one.place number)) got s

-- the items in order, the first one's number being `number`: each one's message and status, and its handle gets null. A
-- message whose cells no longer stand traps, with its item as it was.
abbrev pub put_items : Completing → List Active → ℕ → List Item → State → Onward → Course
put_items call active number [] s go = go s
put_items call active number (item ∷ items) s go =
    or_trap (item_completed call (active_or_none active item.index) number item.got s) s (λ t.
    put_items call active (suc number) items (put (call.requests.from + (active_or_none active item.index).place) null t) go)

-- the places of the items' handles
abbrev pub handle_places : List Active → List Item → List ℤ
handle_places active [] = []
handle_places active (item ∷ items) = pos (active_or_none active item.index).place ∷ handle_places active items

-- places go into cells, where they are asked for
abbrev pub put_places : Option Cells → List ℤ → State → State
put_places None places s = s
put_places (Some indices) places s = put_all indices.from places s

-- the first of the places; `MPI_UNDEFINED` where there is none
abbrev pub first_place : List ℤ → ℤ
first_place [] = undefined
first_place (place ∷ places) = place

-- what was asked for besides: whether it is complete, which handle's start was, how many were and which. Where a function
-- answers two of these they are set in the order in which it names them, so that the second one stays where both are one
-- variable: `MPI_Testany` the index and then the flag, `MPI_Testsome` the count and then the indices.
abbrev pub with_answer : AnswerCells → ℤ → ℤ → ℤ → List ℤ → State → State
with_answer answer flag index outcount places s =
    put_places answer.indices places (put_some answer.outcount outcount (put_some answer.flag flag (put_some answer.index index s)))

-- the only status is that of no handle
abbrev pub put_only_empty : TakeMode → AnswerCells → State → State
put_only_empty AnyOne answer s = put_empty (status_at answer.statuses 0) s
put_only_empty TestAny answer s = put_empty (status_at answer.statuses 0) s
put_only_empty mode answer s = s

-- without an active handle nothing is asked
abbrev pub none_active : Cells → TakeMode → AnswerCells → State → State
none_active requests mode answer s =
    with_answer answer (pos 1) undefined undefined [] (put_only_empty mode answer (empties requests mode answer s))

-- what follows on the reply to a completion: what was completed, or that nothing was
abbrev pub after_take : Completing → List Active → Reply → State → Onward → Course
after_take call active (Took items) s go =
    put_items call active 0 items (empties call.requests call.mode call.answer (with_communicators items s)) (λ s.
    go (with_answer call.answer (pos 1) (first_place (handle_places active items)) (pos (length items)) (handle_places active items) s))
after_take call active reply s go = go (with_answer call.answer (pos 0) undefined (pos 0) [] s)

-- the numbers of starts
abbrev pub starts_in : List Active → List ℕ
starts_in active = map (λ (one : Active). one.start) active

-- a completion of starts: without any it makes no call
abbrev pub completing : Completing → List Active → State → Onward → Course
completing call [] s go = go (none_active call.requests call.mode call.answer s)
completing call (one ∷ more) s go =
    Asks s (Take (starts_in (one ∷ more)) call.mode) (λ reply. after_take call (one ∷ more) reply s go)

-- ---- one start until it is complete

-- the call that completes one start
abbrev pub take_one : ℕ → Call
take_one number = Take (number ∷ []) All

-- what the first item gives
abbrev pub first_got : List Item → Option Got
first_got [] = None
first_got (item ∷ items) = Some item.got

-- the message of a receive and its status, or a trap
abbrev pub put_message : ℕ → Begun → Option ℕ → Option Got → State → Onward → Course
put_message n start status None s go = go s
put_message n start status (Some got) s go = or_trap (completed n start status got s) s go

-- completes a receive
abbrev pub taking_message : ℕ → Receive → ℕ → Option ℕ → State → Onward → Course
taking_message n receive number status s go =
    Asks s (take_one number) (λ reply. put_message n (receiving receive) status (first_got (reply_items reply)) (with_communicators (reply_items reply) s) go)

-- the receive starts first, then the send
abbrev pub sending : Option Message → State → Onward → Course
sending None s go = go s
sending (Some m) s go = Asks s (send_call m s) (λ reply. go (begun (sent m.comm) s))

-- the ints of a collective, or the handle of a communicator that was made
abbrev pub put_result : Into → Option Got → State → State
put_result (IntoCells cells) (Some (Joined ints)) s = put_all cells.from ints s
put_result (Handle at) (Some (Made comm members)) s = put at (if comm == 0 then null else pos comm) s
put_result into got s = s

-- takes a start of which at most a result is wanted: a collective, or a send
abbrev pub taking_result : Into → ℕ → State → Onward → Course
taking_result into number s go =
    Asks s (take_one number) (λ reply. go (put_result into (first_got (reply_items reply)) (with_communicators (reply_items reply) s)))

-- the ints that a member enters
abbrev pub entered_ints : EnterInput → State → List ℤ
entered_ints EntersNothing s = []
entered_ints (EntersCells cells) s = ints_in_cells cells s
entered_ints (Pair colour key) s = colour ∷ (key ∷ [])

-- the call of a collective
abbrev pub enter_call : Collective → State → Call
enter_call j s = Enter j.comm j.kind j.root j.op j.count (entered_ints j.entered s)

-- ---- probes

-- what a probe found: the flag and the status
abbrev pub probed : ℕ → ℕ → Option ℕ → Option ℕ → Reply → State → State
probed n comm flag status (Peeked source start tag count) s =
    put_some flag (pos 1) (put_status status (source_in n comm source s) (pos tag) (pos count) s)
probed n comm flag status reply s = put_some flag (pos 0) s

-- ---- effects

-- what an effect does: its calls in order, and what their replies change
abbrev pub perform : Rank → Effect → State → Onward → Course
perform rank Nothing s go = go s
perform rank (Sets cell value) s go = go (put cell value s)
perform rank (Starts start request) s go =
    Asks s (start_call start s) (λ reply. go (put_some request (pos (number_of_next s)) (begun (begun_by start) s)))
perform rank (Sends m) s go =
    Asks s (send_call m s) (λ reply. taking_result Nowhere (number_of_next s) (begun (sent m.comm) s) go)
perform rank (Receives receive send status) s go =
    Asks s (post_call receive) (λ reply.
    sending send (begun (receiving receive) s) (λ t.
    taking_message rank.ranks receive (number_of_next s) status t go))
perform rank (Completes requests mode answer) s go = completing (completing_of rank.ranks requests mode answer) (active_in requests s) s go
perform rank (Probes comm Null tag waits flag status) s go = go (put_some flag (pos 1) (put_nothing status s))
perform rank (Probes comm source tag waits flag status) s go =
    Asks s (Peek comm source tag waits) (λ reply. go (probed rank.ranks comm flag status reply s))
perform rank (Joins j) s go =
    Asks s (enter_call j s) (λ reply. taking_result j.into (number_of_next s) (begun (sent j.comm) s) go)
perform rank (Aborts code) s go = asks_last (Abort code) s
