-- The halts that are due whatever else could be answered.
use Rattle.std.specs.Prelude.{◌+◌, ℕ, List, [], ◌∷◌, Option, Some, None, Bool, true, false, not, ◌&&◌, ◌||◌, if◌then◌else◌, nat_le, length, is_some}
use Rattle.std.specs.List.{list_any}
use Rattle.mpi_call.specs.declared.call.Call.{Call}
use Rattle.mpi_call.specs.declared.call.Call.TheVariants.{Enter, Take, Abort, Trap}
use Rattle.mpi_call.specs.declared.call.Halt.{Halt}
use Rattle.mpi_call.specs.declared.call.Halt.TheVariants.{Aborted, Trapped, Mismatched, BadRequest, Limit}
use Rattle.mpi_call.specs.declared.reply.Got.{Got}
use Rattle.mpi_call.specs.declared.reply.Got.TheVariants.{Sent, Nothing, Message, Joined, Made}
use Rattle.mpi_call.specs.declared.reply.Item.{Item}
use Rattle.mpi_call.specs.declared.reply.Reply.{Reply}
use Rattle.mpi_call.specs.declared.reply.Reply.TheVariants.{Took, Stopped}
use Rattle.mpi_call.specs.declared.limits.TheConstants.{MOST_EVENTS, MOST_SIZE}
use Rattle.mpi_call.specs.Calls.{comm_of, ints_of, listed_by}
use Rattle.mpi_call.specs.Collectives.{agree}
use Rattle.run_model.specs.declared.event.Event.{Event}
use Rattle.mpi_call.specs.Members.{is_member}
use Rattle.run_model.specs.Lists.{world}
use Rattle.run_model.specs.Views.{View, view_of, starts_of, start_at, taken_of}
use Rattle.run_model.specs.Communicators.{Entered, enter_at, instance_of}

-- the size of an event: the ints in its call and reply, the starts that its call lists, the items and members in its reply
abbrev pub size_of_got : Got → ℕ
size_of_got Sent = 0
size_of_got Nothing = 0
size_of_got (Message source start tag ints) = length ints
size_of_got (Joined ints) = length ints
size_of_got (Made comm members) = length members

-- one for each item, and the size of what it gives
abbrev pub size_of_items : List Item → ℕ
size_of_items [] = 0
size_of_items (item ∷ items) = 1 + (size_of_got item.got + size_of_items items)

-- the size of a reply
abbrev pub size_of_reply : Reply → ℕ
size_of_reply (Took items) = size_of_items items
size_of_reply reply = 0

-- the size of an event
abbrev pub size_of : Event → ℕ
size_of event = length (ints_of event.call) + (length (listed_by event.call) + size_of_reply event.reply)

-- the sizes of all events together
abbrev pub total_size : List Event → ℕ
total_size [] = 0
total_size (event ∷ events) = size_of event + total_size events

-- the run is at its bound
abbrev pub is_full : List Event → Bool
is_full before = nat_le MOST_EVENTS (length before) || nat_le MOST_SIZE (total_size before)

-- the first of two halts that is there
abbrev pub or_else : Option Halt → Option Halt → Option Halt
or_else (Some halt) other = Some halt
or_else None other = other

-- the halt in a reply
abbrev pub halt_of_reply : Reply → Option Halt
halt_of_reply (Stopped halt) = Some halt
halt_of_reply reply = None

-- a reply that stops its rank
abbrev pub stops : Reply → Bool
stops (Stopped halt) = true
stops reply = false

-- the halt of the first Stopped reply
abbrev pub halted : List Event → Option Halt
halted [] = None
halted (event ∷ events) = or_else (halt_of_reply event.reply) (halted events)

-- an Enter that is there does not agree with this one
abbrev pub disagrees : Call → Option Entered → Bool
disagrees enter None = false
disagrees enter (Some entered) = not (agree enter entered.call)

-- some earlier Enter of the instance that this Enter would be of does not agree with it
abbrev pub is_mismatched : ℕ → List Event → View → Call → Bool
is_mismatched n before own enter =
    list_any
    (λ m. disagrees enter (enter_at n (view_of before m) (comm_of enter) (instance_of own (length (starts_of own)) (comm_of enter))))
    (world n 0)

-- the first listed start that was never made, was taken, or stands earlier in the list
abbrev pub bad_request : View → List ℕ → List ℕ → Option ℕ
bad_request own earlier [] = None
bad_request own earlier (k ∷ starts) =
    if is_some (start_at own k) && (not (is_member (taken_of own) k) && not (is_member earlier k))
    then bad_request own (k ∷ earlier) starts else Some k

-- BadRequest for this start
abbrev pub bad_halt : ℕ → Option ℕ → Option Halt
bad_halt me None = None
bad_halt me (Some k) = Some (BadRequest me k)

-- the halt that a call brings by itself
abbrev pub halt_at : ℕ → List Event → ℕ → View → Call → Option Halt
halt_at n before me own (Abort code) = Some (Aborted me code)
halt_at n before me own (Trap fault) = Some (Trapped me fault)
halt_at n before me own (Enter comm kind root op count ints) =
    if is_mismatched n before own (Enter comm kind root op count ints) then Some (Mismatched me) else None
halt_at n before me own (Take starts mode) = bad_halt me (bad_request own [] starts)
halt_at n before me own call = None

-- after a Stopped reply the same halt; else Limit, and else the call's own
abbrev pub due : ℕ → List Event → ℕ → View → Call → Option Halt
due n before me own call =
    or_else (halted before) (if is_full before then Some Limit else halt_at n before me own call)
