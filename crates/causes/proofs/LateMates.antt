-- A synchronous send that meets its receive later: rank 2 posts two receives, the message of rank 1 meets the first, and that of rank 0, which
-- was sent before it, the second.
use Rattle.std.proofs.Common.{◌≡◌, ℕ, List, [], ◌∷◌, Option, Some, None, Bool, false, true, refl}
use Rattle.mpi_call.specs.declared.call.Call.{Call}
use Rattle.mpi_call.specs.declared.call.Call.TheVariants.{Post, Send}
use Rattle.mpi_call.specs.declared.call.Source.TheVariants.{Any}
use Rattle.mpi_call.specs.declared.call.Tag.TheVariants.{Any as AnyTag}
use Rattle.mpi_call.specs.declared.reply.Reply.TheVariants.{Done}
use Rattle.run_model.specs.declared.event.Event.{Event}
use Rattle.run_model.specs.Pairs.{Name}
use Rattle.causes.specs.Positions.{mates_of}
use Rattle.causes.specs.Steps.{received_at}

abbrev start : ℕ → Call → Option ℕ → List (Name × Name) → Event
start rank call mate met = record { rank = rank; call = call; reply = Done; mate = mate; met = met }

abbrev receive : Call
receive = Post 0 Any AnyTag 1

abbrev message : Bool → Call
message sync = Send 0 2 9 [] sync

abbrev events : List Event
events =
    start 2 receive None []
    ∷ start 0 (message true) None []
    ∷ start 1 (message false) (Some 0) []
    ∷ start 2 receive None (((2, 1), (0, 0)) ∷ [])
    ∷ []

-- the completion of the synchronous send rests on the second receive, and on nothing else
received : received_at events 1 (message true) ≡ 3 ∷ []
received = refl

-- each start has the other of its pair
first : mates_of events 0 ≡ 2 ∷ []
first = refl

second : mates_of events 3 ≡ 1 ∷ []
second = refl
