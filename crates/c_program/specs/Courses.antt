-- What a rank does, by the replies that it gets.
use Rattle.std.specs.Prelude.{◌*◌, ◌++◌, ◌&&◌, not, ℕ, List, [], ◌∷◌, Option, Some, None, if◌then◌else◌}
use Rattle.mpi_call.specs.declared.call.Call.{Call}
use Rattle.mpi_call.specs.declared.call.Call.TheVariants.{Trap, End}
use Rattle.mpi_call.specs.declared.call.Fault.{Fault}
use Rattle.mpi_call.specs.declared.reply.Reply.{Reply}
use Rattle.run_model.specs.declared.lists.Variable.{Variable}
use Rattle.run_model.specs.Program.{ends}
use Rattle.run_model.specs.Shape.{has_shape}
use Rattle.run_model.specs.Views.{View}
use Rattle.c_program.specs.State.{Slot, State, values_from}

-- a course: the rank makes a call, here, and goes on by the reply; or it makes none any more
pub data Course : Type 0 where
  Asks : State → Call → (Reply → Course) → Course
  Over : State → Course

-- a call that no other follows
abbrev pub asks_last : Call → State → Course
asks_last call s = Asks s call (λ reply. Over s)

-- the rank traps with a fault
abbrev pub trapped : Fault → State → Course
trapped fault s = asks_last (Trap fault) s

-- the rank ends
abbrev pub ended : State → Course
ended s = asks_last End s

-- the course after a reply
abbrev pub after_one_reply : Course → Reply → Course
after_one_reply (Over s) reply = Over s
after_one_reply (Asks s call go) reply = if ends (call, reply) then Over s else go reply

-- the course after some replies
abbrev pub after_replies : Course → List Reply → Course
after_replies course [] = course
after_replies course (reply ∷ replies) = after_replies (after_one_reply course reply) replies

-- the call that a course makes next, if any
abbrev pub call_in : Course → Option Call
call_in (Asks s call go) = Some call
call_in (Over s) = None

-- the state in which a course is
abbrev pub state_in : Course → State
state_in (Asks s call go) = s
state_in (Over s) = s

-- the same for rank `me` of n, of which a reply out of its call's shape makes an end: `own` is what the rank has seen
abbrev pub shaped_after : ℕ → ℕ → View → Course → List Reply → Course
shaped_after n me own course [] = course
shaped_after n me own (Over s) (reply ∷ replies) = Over s
shaped_after n me own (Asks s call go) (reply ∷ replies) =
    if has_shape n me own call reply && not (ends (call, reply))
    then shaped_after n me (own ++ (call, reply) ∷ []) (go reply) replies
    else Over s

-- ---- what stands

-- a variable with the values of its cells, elements and their fields in order
abbrev pub variable_of : State → Slot → Variable
variable_of s slot = record { depth = slot.depth; name = slot.name; values = values_from slot.cells.from (slot.cells.length * slot.cells.width) s }

-- the variables that are listed, in order
abbrev pub listed_of : State → List Slot → List Variable
listed_of s [] = []
listed_of s (slot ∷ slots) = if slot.is_listed then variable_of s slot ∷ listed_of s slots else listed_of s slots

-- a rank that has ended has no variables
abbrev pub variables_in : Course → List Variable
variables_in (Asks s call go) = listed_of s s.slots
variables_in (Over s) = []
