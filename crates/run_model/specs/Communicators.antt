-- The communicators that a rank knows, and the instances of collectives.
-- (MPI 3.1, Groups, Contexts, and Communicators; Collective Communication: "all members call in the same order".)
use Rattle.std.specs.Prelude.{ℕ, suc, List, [], ◌∷◌, Option, Some, None, Bool, false, ◌&&◌, ◌==◌, if◌then◌else◌, slice_get, take}
use Rattle.mpi_call.specs.declared.call.Call.{Call}
use Rattle.mpi_call.specs.declared.call.Call.TheVariants.{Enter}
use Rattle.mpi_call.specs.declared.reply.Got.{Got}
use Rattle.mpi_call.specs.declared.reply.Got.TheVariants.{Made}
use Rattle.mpi_call.specs.declared.reply.Item.{Item}
use Rattle.mpi_call.specs.declared.reply.Reply.{Reply}
use Rattle.mpi_call.specs.declared.reply.Reply.TheVariants.{Took}
use Rattle.run_model.specs.declared.event.Event.{Event}
use Rattle.run_model.specs.Lists.{world}
use Rattle.run_model.specs.Views.{View, is_start, starts_of}

-- the members that what a start gives has for a number
abbrev pub made_in_got : ℕ → Got → Option (List ℕ)
made_in_got comm (Made c members) = if c == comm then Some members else None
made_in_got comm got = None

-- the first of two, if it is there
abbrev pub or_members : Option (List ℕ) → Option (List ℕ) → Option (List ℕ)
or_members (Some members) rest = Some members
or_members None rest = rest

-- the members in the first Made with this number
abbrev pub made_in_items : ℕ → List Item → Option (List ℕ)
made_in_items comm [] = None
made_in_items comm (item ∷ items) = or_members (made_in_got comm item.got) (made_in_items comm items)

-- what a reply teaches of a communicator whose members are known so far as this: the first Made with its number stays
abbrev pub learned : ℕ → Option (List ℕ) → Reply → Option (List ℕ)
learned comm (Some members) reply = Some members
learned comm None (Took items) = made_in_items comm items
learned comm None reply = None

-- all ranks are in communicator 0, and of another nothing is known at first
abbrev pub known_first : ℕ → ℕ → Option (List ℕ)
known_first n comm = if comm == 0 then Some (world n 0) else None

-- what is known of a communicator after a view
abbrev pub known_after : ℕ → Option (List ℕ) → View → Option (List ℕ)
known_after comm known [] = known
known_after comm known ((call, reply) ∷ view) = known_after comm (learned comm known reply) view

-- the members of a communicator for a rank: all ranks for 0, else those of its first Made with this number
abbrev pub known_in : ℕ → View → ℕ → Option (List ℕ)
known_in n view comm = known_after comm (known_first n comm) view

-- an unknown communicator has no members
abbrev pub or_none : Option (List ℕ) → List ℕ
or_none None = []
or_none (Some members) = members

-- the members of a communicator for a rank, none where it does not know it
abbrev pub members_for_rank : ℕ → View → ℕ → List ℕ
members_for_rank n view comm = or_none (known_in n view comm)

-- an Enter of a rank: its start number, the call, and the communicator's members for this rank when it entered
pub record Entered : Type 0 where
  pub number : ℕ
  pub call : Call
  pub members : Option (List ℕ)

-- an Enter on this communicator
abbrev pub is_on : ℕ → Call → Bool
is_on comm (Enter c kind root op count ints) = c == comm
is_on comm call = false

-- an Enter of the rank on the communicator
abbrev pub is_enter_of : ℕ → ℕ → Event → Bool
is_enter_of rank comm event = is_start (event.call, event.reply) && (is_on comm event.call && (event.rank == rank))

-- the Enters of a view on a communicator; `number` is that of the view's first start
abbrev pub entered_from : ℕ → ℕ → Option (List ℕ) → View → List Entered
entered_from comm number known [] = []
entered_from comm number known ((call, reply) ∷ view) =
    if is_start (call, reply)
    then (if is_on comm call
    then (record { number = number; call = call; members = known }) ∷ entered_from comm (suc number) (learned comm known reply) view
    else entered_from comm (suc number) (learned comm known reply) view)
    else entered_from comm number (learned comm known reply) view

-- a rank's Enter of an instance: its instances on a communicator are numbered from 0
abbrev pub enter_at : ℕ → View → ℕ → ℕ → Option Entered
enter_at n view comm instance = slice_get (entered_from comm 0 (known_first n comm) view) instance

-- how many of these calls are Enters on the communicator
abbrev pub count_on : ℕ → List Call → ℕ
count_on comm [] = 0
count_on comm (call ∷ calls) = if is_on comm call then suc (count_on comm calls) else count_on comm calls

-- the instance of a rank's start with this number: how many of its earlier starts are Enters on the communicator
abbrev pub instance_of : View → ℕ → ℕ → ℕ
instance_of view number comm = count_on comm (take number (starts_of view))
