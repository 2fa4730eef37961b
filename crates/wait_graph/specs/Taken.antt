-- The messages that a rank took.
use Rattle.std.specs.Prelude.{◌≡◌, ◌&&◌, ◌==◌, ℕ, Bool, List, [], ◌∷◌, ◌++◌, Option, Some, None, if◌then◌else◌, length, nat_eq, slice_index}
use Rattle.std.specs.Map.{lookup}
use Rattle.std.specs.Option.{option_eq}
use Rattle.std.specs.Ordering.{eq_of_both, on}
use Rattle.mpi_call.specs.declared.call.Call.{Call}
use Rattle.mpi_call.specs.declared.call.Call.TheVariants.{Post}
use Rattle.mpi_call.specs.declared.call.Tag.{Tag}
use Rattle.mpi_call.specs.declared.reply.Got.{Got}
use Rattle.mpi_call.specs.declared.reply.Got.TheVariants.{Message}
use Rattle.mpi_call.specs.declared.reply.Item.{Item}
use Rattle.mpi_call.specs.declared.reply.Reply.{Reply}
use Rattle.mpi_call.specs.declared.reply.Reply.TheVariants.{Took}
use Rattle.mpi_call.specs.Acceptance.{tag_agrees}
use Rattle.mpi_call.specs.Calls.{listed_by}
use Rattle.run_model.specs.Views.{View, start_at}
use Rattle.msg_races.specs.Ways.{named_tag}
use Rattle.wait_graph.specs.declared.message.Taken.{Taken}
use Rattle.wait_graph.specs.declared.taken.InboundWay.{InboundWay}

-- which messages are asked for: those of a sender on a communicator, with a tag
pub record Asked : Type 0 where
  pub comm : ℕ
  pub tag : Tag
  pub sender : ℕ

-- the same, of its parts
abbrev pub asked_of : ℕ → Tag → ℕ → Asked
asked_of comm tag sender = record { comm = comm; tag = tag; sender = sender }

-- the message that is known as taken last of those asked for, after a receive on communicator c gave this at call `number`
abbrev pub after_message : Asked → ℕ → ℕ → Got → Option Taken → Option Taken
after_message asked number c (Message from start sent ints) known =
    if (c == asked.comm) && ((from == asked.sender) && tag_agrees asked.tag sent) then Some (record { name = record { rank = from; start = start }; call = number }) else known
after_message asked number c got known = known

-- the same, after a start with this call gave it
abbrev pub taken_after_got : Asked → ℕ → Option Call → Got → Option Taken → Option Taken
taken_after_got asked number (Some (Post c source tag room)) got known = after_message asked number c got known
taken_after_got asked number start got known = known

-- the same, after these items of a call that lists these starts
abbrev pub taken_after_items : Asked → ℕ → View → List ℕ → List Item → Option Taken → Option Taken
taken_after_items asked number own starts [] known = known
taken_after_items asked number own starts (item ∷ items) known =
    taken_after_items asked number own starts items
    (taken_after_got asked number (start_at own (slice_index starts item.index)) item.got known)

-- the same, after the reply to call `number`
abbrev pub taken_after_reply : Asked → ℕ → View → Call → Reply → Option Taken → Option Taken
taken_after_reply asked number own call (Took items) known = taken_after_items asked number own (listed_by call) items known
taken_after_reply asked number own call reply known = known

-- the same, after a view that goes on from another
abbrev pub last_taken_from : Asked → View → View → Option Taken → Option Taken
last_taken_from asked before [] known = known
last_taken_from asked before ((call, reply) ∷ view) known =
    last_taken_from asked (before ++ (call, reply) ∷ []) view (taken_after_reply asked (length before) before call reply known)

-- of the messages of a sender on a communicator, with a tag, the one that a rank took last, and at which call
abbrev pub taken_last : View → ℕ → Tag → ℕ → Option Taken
taken_last own comm tag sender = last_taken_from (asked_of comm tag sender) [] own None

-- all parts of two ways are equal
abbrev pub same_inbound_way : InboundWay → InboundWay → Bool
same_inbound_way =
    eq_of_both (on (λ (w : InboundWay). w.sender) ◌==◌)
    (eq_of_both (on (λ (w : InboundWay). w.comm) ◌==◌)
    (on (λ (w : InboundWay). w.tag) (option_eq nat_eq)))

-- the messages that a rank took last, by the ways that they came
pub record AreTaken (own : View) (table : List (InboundWay × Taken)) : Type 0 where
  pub each : (way : InboundWay) → lookup (same_inbound_way way) table ≡ taken_last own way.comm (named_tag way.tag) way.sender
