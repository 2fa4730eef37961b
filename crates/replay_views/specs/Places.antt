-- The places at which a message is sent, found and taken.
use Rattle.std.specs.Prelude.{ℕ, List, [], ◌∷◌, Option, Some, None, Bool, false, ◌&&◌, ◌==◌, if◌then◌else◌, flat_map, length, slice_get, take}
use Rattle.std.specs.List.{list_any}
use Rattle.mpi_call.specs.declared.call.Call.{Call}
use Rattle.mpi_call.specs.declared.reply.Got.{Got}
use Rattle.mpi_call.specs.declared.reply.Got.TheVariants.{Message}
use Rattle.mpi_call.specs.declared.reply.Item.{Item}
use Rattle.mpi_call.specs.declared.reply.Reply.{Reply}
use Rattle.mpi_call.specs.declared.reply.Reply.TheVariants.{Done, Took as TookItems, Peeked}
use Rattle.mpi_call.specs.Calls.{is_send}
use Rattle.msg_races.specs.declared.names.Name.{Name}
use Rattle.run_model.specs.declared.event.Event.{Event}
use Rattle.run_model.specs.Lists.{world}
use Rattle.run_model.specs.Views.{View, starts_of, view_of}
use Rattle.replay_views.specs.declared.places.MessagePlace as lent
use Rattle.replay_views.specs.declared.role.Role.{Role}
use Rattle.replay_views.specs.declared.role.Role.TheVariants.{Sent, Found, Took}

-- a place where a message is: a call of a rank, by its number, with its reply, and what it does with the message
pub record MessagePlace : Type 0 where
  pub rank : ℕ
  pub number : ℕ
  pub role : Role
  pub call : Call
  pub reply : Reply

-- the same, of calls and replies that are lent
abbrev pub message_place_view : lent.MessagePlace → MessagePlace
message_place_view place = record { rank = place.rank; number = place.number; role = place.role; call = place.call.now; reply = place.reply.now }

-- a completed start got the message of a name
abbrev pub got_message : Name → Got → Bool
got_message name (Message source start tag ints) = (source == name.rank) && (start == name.start)
got_message name got = false

-- an item got the message of a name
abbrev pub has_message : Name → Item → Bool
has_message name item = got_message name item.got

-- a call that starts something sends the message if it is the Send of its name: of its rank, after as many starts as its number
abbrev pub sent_role : Name → ℕ → ℕ → Call → Option Role
sent_role name rank made call = if is_send call && ((rank == name.rank) && (made == name.start)) then Some Sent else None

-- what a call with its reply does with the message of a name, if anything: the call of a rank that made so many starts before
abbrev pub role_of : Name → ℕ → ℕ → Call × Reply → Option Role
role_of name rank made (call, Done) = sent_role name rank made call
role_of name rank made (call, Peeked source start tag count) =
    if (source == name.rank) && (start == name.start) then Some Found else None
role_of name rank made (call, TookItems items) = if list_any (has_message name) items then Some Took else None
role_of name rank made (call, reply) = None

-- the place, if the call does something with the message
abbrev pub place_with : ℕ → ℕ → Call × Reply → Option Role → List MessagePlace
place_with rank number seen None = []
place_with rank number seen (Some role) = (record { rank = rank; number = number; role = role; call = seen.0; reply = seen.1 }) ∷ []

-- the place at a call, if the rank has made it
abbrev pub place_of_seen : Name → ℕ → ℕ → ℕ → Option (Call × Reply) → List MessagePlace
place_of_seen name rank number made None = []
place_of_seen name rank number made (Some seen) = place_with rank number seen (role_of name rank made seen)

-- the place at a call of a rank that has seen this, if the call does something with the message
abbrev pub place_at : Name → ℕ → View → ℕ → List MessagePlace
place_at name rank view number = place_of_seen name rank number (length (starts_of (take number view))) (slice_get view number)

-- the places of a rank, by the numbers of its calls
abbrev pub places_in_view : Name → ℕ → View → List MessagePlace
places_in_view name rank view = flat_map (place_at name rank view) (world (length view) 0)

-- the places of some ranks after some events, rank by rank
abbrev pub places_of : Name → List Event → List ℕ → List MessagePlace
places_of name events group = flat_map (λ rank. places_in_view name rank (view_of events rank)) group
