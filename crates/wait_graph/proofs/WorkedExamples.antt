-- Small runs that are stuck, and who waits for whom there.
use Rattle.std.proofs.Common.{◌≡◌, List, [], ◌∷◌, ◌++◌, ℕ, zero, suc, Option, None, Some, false, refl}
use Rattle.mpi_call.specs.declared.call.Call.{Call}
use Rattle.mpi_call.specs.declared.call.Call.TheVariants.{End, Enter, Post, Send, Take}
use Rattle.mpi_call.specs.declared.call.Halt.TheVariants.{Stuck}
use Rattle.mpi_call.specs.declared.call.Kind.TheVariants.{Barrier}
use Rattle.mpi_call.specs.declared.call.Source.TheVariants.{Any, From, Null}
use Rattle.mpi_call.specs.declared.call.Tag.TheVariants.{Any as AnyTag, Is}
use Rattle.mpi_call.specs.declared.call.TakeMode.TheVariants.{All}
use Rattle.mpi_call.specs.declared.reply.Got.TheVariants.{Message}
use Rattle.mpi_call.specs.declared.reply.Reply.{Reply}
use Rattle.mpi_call.specs.declared.reply.Reply.TheVariants.{Done, Stopped, Took}
use Rattle.run_model.specs.declared.event.Event.{Event}
use Rattle.run_model.specs.Views.{view_of}
use Rattle.wait_graph.specs.declared.difference.Difference.TheVariants.{Comm, Source as BySource, Tag as ByTag}
use Rattle.wait_graph.specs.declared.wait.Wait.{Wait}
use Rattle.wait_graph.specs.Going.{going, stopped_call}
use Rattle.wait_graph.specs.Graph.{cycle_from, cycles, graph_of, hopeless, is_live, waited_rank}
use Rattle.wait_graph.specs.Opens.{differences, opens_to}
use Rattle.wait_graph.specs.Taken.{taken_last}
use Rattle.wait_graph.specs.Waits.{senders, waits_at}

abbrev event_of : ℕ → Call → Reply → Option ℕ → Event
event_of rank call reply mate = record { rank = rank; call = call; reply = reply; mate = mate; met = [] }

-- 1. rank 0 receives from any rank and then from rank 2; ranks 1 and 2 send it a message each and end. It took that of rank 2.

abbrev took : Reply
took = Took (record { index = 0; got = Message 2 0 1 [] } ∷ [])

abbrev eaten : List Event
eaten =
    event_of 2 (Send 0 0 1 [] false) Done None
    ∷ event_of 0 (Post 0 Any (Is 1) 0) Done (Some 0)
    ∷ event_of 0 (Take (0 ∷ []) All) took None
    ∷ event_of 1 (Send 0 0 1 [] false) Done None
    ∷ event_of 1 End Done None
    ∷ event_of 2 End Done None
    ∷ event_of 0 (Post 0 (From 2) AnyTag 0) Done None
    ∷ []

abbrev stuck : List Event
stuck = eaten ++ event_of 0 (Take (1 ∷ []) All) (Stopped Stuck) None ∷ []

before_the_halt : going stuck ≡ eaten
before_the_halt = refl

stopped_there : stopped_call stuck 0 ≡ Some (Take (1 ∷ []) All)
stopped_there = refl

not_stopped : stopped_call stuck 1 ≡ None
not_stopped = refl

has_ended : is_live 3 eaten 2 ≡ false
has_ended = refl

abbrev wait : Wait
wait = record { start = Some 1; call = Post 0 (From 2) AnyTag 0; awaited = 2 ∷ [] }

-- the first receive is ready and is not told
waits_for_two : waits_at 3 eaten 0 (Take (0 ∷ 1 ∷ []) All) ≡ wait ∷ []
waits_for_two = refl

told : graph_of 3 stuck ≡ record { blocked = record { rank = 0; number = 3; call = Take (1 ∷ []) All; waits = wait ∷ [] } ∷ []; cycles = []; hopeless = 0 ∷ [] }
told = refl

taken_there : taken_last (view_of eaten 0) 0 AnyTag 2 ≡ Some (record { name = record { rank = 2; start = 0 }; call = 1 })
taken_there = refl

not_that_tag : taken_last (view_of eaten 0) 0 (Is 2) 2 ≡ None
not_that_tag = refl

not_that_communicator : taken_last (view_of eaten 0) 1 AnyTag 2 ≡ None
not_that_communicator = refl

-- the message that was taken is not open
open_there : opens_to 3 eaten 0 ≡ record { name = record { rank = 1; start = 0 }; comm = 0; tag = 1 } ∷ []
open_there = refl

by_source : differences 0 (From 2) AnyTag 0 1 1 ≡ BySource ∷ []
by_source = refl

by_all : differences 0 (From 2) (Is 5) 3 1 1 ≡ Comm ∷ BySource ∷ ByTag ∷ []
by_all = refl

-- 2. ranks 0 and 1 wait in a barrier, rank 2 for a message of rank 0

abbrev barrier : Call
barrier = Enter 0 Barrier None None 0 []

abbrev apart : List Event
apart =
    event_of 0 barrier Done None
    ∷ event_of 1 barrier Done None
    ∷ event_of 2 (Post 0 (From 0) (Is 7) 0) Done None
    ∷ event_of 0 (Take (0 ∷ []) All) (Stopped Stuck) None
    ∷ event_of 1 (Take (0 ∷ []) All) (Stopped Stuck) None
    ∷ event_of 2 (Take (0 ∷ []) All) (Stopped Stuck) None
    ∷ []

for_the_absent : waited_rank 3 apart 0 ≡ Some 2
for_the_absent = refl

for_the_sender : waited_rank 3 apart 2 ≡ Some 0
for_the_sender = refl

-- rank 1 leads into the cycle and is not of it
one_cycle : cycles 3 apart ≡ (0 ∷ 2 ∷ []) ∷ []
one_cycle = refl

none_in_vain : hopeless 3 apart ≡ []
none_in_vain = refl

-- 3. cycles by their least ranks

abbrev next : ℕ → Option ℕ
next zero = Some 2
next (suc zero) = Some 1
next (suc (suc zero)) = Some 0
next rank = None

from_the_least : cycle_from next 3 0 ≡ Some (0 ∷ 2 ∷ [])
from_the_least = refl

not_from_another : cycle_from next 3 2 ≡ None
not_from_another = refl

alone : cycle_from next 3 1 ≡ Some (1 ∷ [])
alone = refl

-- 4. a rank is no sender to itself where it asks for any

not_itself : senders (0 ∷ 1 ∷ 2 ∷ []) 1 Any ≡ 0 ∷ 2 ∷ []
not_itself = refl

not_from_the_null_process : senders (0 ∷ 1 ∷ []) 1 Null ≡ []
not_from_the_null_process = refl
