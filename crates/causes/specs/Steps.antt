-- What the reply to an event rests on: the positions of Sends, Enters and Posts.
-- (MPI 3.1, Point-to-Point Communication, "Communication Modes"; Collective Communication.)
use Rattle.std.specs.Prelude.{ℕ, List, [], ◌∷◌, ◌++◌, Option, Some, None, Bool, true, if◌then◌else◌, slice_get, slice_index}
use Rattle.std.specs.Option.{option_to_list}
use Rattle.mpi_call.specs.declared.call.Call.{Call}
use Rattle.mpi_call.specs.declared.call.Call.TheVariants.{Send, Enter}
use Rattle.mpi_call.specs.declared.reply.Got.{Got}
use Rattle.mpi_call.specs.declared.reply.Got.TheVariants.{Sent, Nothing, Message, Joined, Made}
use Rattle.mpi_call.specs.declared.reply.Item.{Item}
use Rattle.mpi_call.specs.declared.reply.Reply.{Reply}
use Rattle.mpi_call.specs.declared.reply.Reply.TheVariants.{Took, Peeked}
use Rattle.mpi_call.specs.Calls.{listed_by}
use Rattle.mpi_call.specs.Collectives.{needs}
use Rattle.run_model.specs.declared.event.Event.{Event}
use Rattle.run_model.specs.Communicators.{members_for_rank}
use Rattle.run_model.specs.Views.{view_of}
use Rattle.causes.specs.Positions.{enter_position, enter_instance_at, mates_of, start_position}

-- the Enter of a member, if it is needed
abbrev pub entered_one : List Event → ℕ → ℕ → (ℕ → Bool) → ℕ → List ℕ
entered_one before comm instance needed m = if needed m then option_to_list (enter_position before m comm instance) else []

-- the Enters of the needed members of an instance
abbrev pub needed_enters : List Event → ℕ → ℕ → (ℕ → Bool) → List ℕ → List ℕ
needed_enters before comm instance needed [] = []
needed_enters before comm instance needed (m ∷ members) =
    entered_one before comm instance needed m ++ needed_enters before comm instance needed members

-- a result of rank `me` rests on the Enters of its instance that it needs; `at` is the position of the rank's own
abbrev pub collected_from : ℕ → List Event → ℕ → ℕ → Call → List ℕ
collected_from n before me at (Enter comm kind root op count ints) =
    needed_enters before comm (enter_instance_at before me comm at)
    (needs (Enter comm kind root op count ints) (members_for_rank n (view_of before me) comm) me)
    (members_for_rank n (view_of before me) comm)
collected_from n before me at call = []

-- the completion of a synchronous send rests on its paired Post
abbrev pub received_at : List Event → ℕ → Call → List ℕ
received_at before at (Send comm dest tag ints true) = mates_of before at
received_at before at call = []

-- what the completion of the start at a position gives rests on
abbrev pub given_from : ℕ → List Event → ℕ → ℕ → Event → Got → List ℕ
given_from n before me at start (Message source number tag ints) = option_to_list (start_position before source number)
given_from n before me at start (Joined ints) = collected_from n before me at start.call
given_from n before me at start (Made comm members) = collected_from n before me at start.call
given_from n before me at start Sent = received_at before at start.call
given_from n before me at start Nothing = []

-- the same, where there is a start
abbrev pub given_at : ℕ → List Event → ℕ → ℕ → Option Event → Got → List ℕ
given_at n before me at None got = []
given_at n before me at (Some start) got = given_from n before me at start got

-- the same, where the start has a position
abbrev pub given_by : ℕ → List Event → ℕ → Option ℕ → Got → List ℕ
given_by n before me None got = []
given_by n before me (Some at) got = given_at n before me at (slice_get before at) got

-- the same, of the start with this number
abbrev pub completed_from : ℕ → List Event → ℕ → ℕ → Got → List ℕ
completed_from n before me number got = given_by n before me (start_position before me number) got

-- what completed starts give rests on
abbrev pub given_by_items : ℕ → List Event → ℕ → List ℕ → List Item → List ℕ
given_by_items n before me starts [] = []
given_by_items n before me starts (item ∷ items) =
    completed_from n before me (slice_index starts item.index) item.got ++ given_by_items n before me starts items

-- what a reply rests on: a message on its Send, a collective on the Enters that its result needs, a synchronous send on the Post
-- that received it
abbrev pub rests_on : ℕ → List Event → ℕ → Call → Reply → List ℕ
rests_on n before me call (Took items) = given_by_items n before me (listed_by call) items
rests_on n before me call (Peeked source number tag count) = option_to_list (start_position before source number)
rests_on n before me call reply = []
