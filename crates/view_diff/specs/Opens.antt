-- The receives from any source around a parting.
use Rattle.std.specs.Prelude.{ℕ, suc, List, [], ◌∷◌, ◌++◌, Option, Some, None, Bool, false, not, ◌&&◌, if◌then◌else◌, drop, flat_map, slice_get, slice_index, take}
use Rattle.mpi_call.specs.declared.call.Call.{Call}
use Rattle.mpi_call.specs.declared.reply.Got.{Got}
use Rattle.mpi_call.specs.declared.reply.Got.TheVariants.{Message}
use Rattle.mpi_call.specs.declared.reply.Item.{Item}
use Rattle.mpi_call.specs.declared.reply.Reply.{Reply}
use Rattle.mpi_call.specs.declared.reply.Reply.TheVariants.{Took}
use Rattle.mpi_call.specs.Calls.{is_wildcard, listed_by}
use Rattle.mpi_call.specs.Members.{is_member}
use Rattle.run_model.specs.Views.{View, starts_of, taken_of}
use Rattle.msg_races.specs.declared.names.Name.{Name}

-- the same, of the start with a number
abbrev pub is_wildcard_start : Option Call → Bool
is_wildcard_start None = false
is_wildcard_start (Some call) = is_wildcard call

-- the receives from any source among these starts that were not taken, with their numbers; the first start has this number
abbrev pub open_receives_from : ℕ → List ℕ → List Call → List (ℕ × Call)
open_receives_from number taken [] = []
open_receives_from number taken (call ∷ calls) =
    if is_wildcard call && not (is_member taken number) then (number, call) ∷ open_receives_from (suc number) taken calls else open_receives_from (suc number) taken calls

-- the receives from any source that a rank made and had not completed before a call
abbrev pub open_receives_before : View → ℕ → List (ℕ × Call)
open_receives_before own number = open_receives_from 0 (taken_of (take number own)) (starts_of (take number own))

-- the name of a message
abbrev pub names_of_got : Got → List Name
names_of_got (Message source start tag ints) = (record { rank = source; start = start }) ∷ []
names_of_got got = []

-- the names of the messages that receives from any source got, of these starts and the completed items of this list
abbrev pub names_in : List Call → List ℕ → List Item → List Name
names_in starts listed [] = []
names_in starts listed (item ∷ items) =
    if is_wildcard_start (slice_get starts (slice_index listed item.index)) then names_of_got item.got ++ names_in starts listed items
    else names_in starts listed items

-- the same, of a call with its reply
abbrev pub names_by : List Call → Call × Reply → List Name
names_by starts (call, Took items) = names_in starts (listed_by call) items
names_by starts (call, reply) = []

-- the messages that a rank's receives from any source got from a call on, in the order in which it took them
abbrev pub got_from : View → ℕ → List Name
got_from own number = flat_map (names_by (starts_of own)) (drop number own)
