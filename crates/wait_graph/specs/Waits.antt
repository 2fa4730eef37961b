-- What a rank waits for at a call, and for whom. G is the run before it was halted.
use Rattle.std.specs.Prelude.{ℕ, List, [], ◌∷◌, ◌++◌, Option, Some, None, Bool, not, ◌&&◌, ◌==◌, if◌then◌else◌, filter, is_some}
use Rattle.mpi_call.specs.declared.call.Call.{Call}
use Rattle.mpi_call.specs.declared.call.Call.TheVariants.{Send, Post, Enter, Take, Peek}
use Rattle.mpi_call.specs.declared.call.Source.{Source}
use Rattle.mpi_call.specs.declared.call.Source.TheVariants.{Any, From, Null}
use Rattle.mpi_call.specs.Needs.{needs}
use Rattle.run_model.specs.declared.event.Event.{Event}
use Rattle.run_model.specs.Communicators.{Entered, enter_at, instance_of, members_for_rank}
use Rattle.run_model.specs.Readiness.{is_ready}
use Rattle.run_model.specs.Views.{moment_at, start_at, view_of}
use Rattle.wait_graph.specs.declared.wait.Wait.{Wait}

-- whose message rank me can get: that of the rank that the source names; where it names any, that of each other member
abbrev pub senders : List ℕ → ℕ → Source → List ℕ
senders members me Any = filter (λ member. not (member == me)) members
senders members me (From rank) = rank ∷ []
senders members me Null = []

-- the members that are needed and have not entered
abbrev pub absent : (ℕ → Bool) → (ℕ → Option Entered) → List ℕ → List ℕ
absent needed find members = filter (λ member. needed member && not (is_some (find member))) members

-- the absent members of the instance that rank me entered by its start k
abbrev pub absent_for : ℕ → List Event → ℕ → ℕ → ℕ → Call → List ℕ
absent_for n G me k comm enter =
    absent (needs enter (members_for_rank n (view_of G me) comm) me)
    (λ member. enter_at n (view_of G member) comm (instance_of (view_of G me) k comm))
    (members_for_rank n (view_of G me) comm)

-- for whom rank me waits with a start k: the senders of a receive, the receiver of a synchronous send, the absent members of a collective
abbrev pub awaited_by : ℕ → List Event → ℕ → ℕ → Call → List ℕ
awaited_by n G me k (Send comm dest tag ints sync) = dest ∷ []
awaited_by n G me k (Post comm source tag room) = senders (members_for_rank n (view_of G me) comm) me source
awaited_by n G me k (Enter comm kind root op count ints) = absent_for n G me k comm (Enter comm kind root op count ints)
awaited_by n G me k (Peek comm source tag wait) = senders (members_for_rank n (view_of G me) comm) me source
awaited_by n G me k call = []

-- rank me waits with its start k, where that is not ready
abbrev pub wait_at : ℕ → List Event → ℕ → ℕ → Option Call → List Wait
wait_at n G me k None = []
wait_at n G me k (Some call) =
    if is_ready (moment_at n G me) k (Some call) then []
    else (record { start = Some k; call = call; awaited = awaited_by n G me k call }) ∷ []

-- the listed starts that are not ready
abbrev pub waits_in : ℕ → List Event → ℕ → List ℕ → List Wait
waits_in n G me [] = []
waits_in n G me (k ∷ starts) = wait_at n G me k (start_at (view_of G me) k) ++ waits_in n G me starts

-- what rank me waits for at a call: the listed starts that are not ready, or the probe itself
abbrev pub waits_at : ℕ → List Event → ℕ → Call → List Wait
waits_at n G me (Take starts mode) = waits_in n G me starts
waits_at n G me (Peek comm source tag wait) =
    (record {
      start = None;
      call = Peek comm source tag wait;
      awaited = awaited_by n G me 0 (Peek comm source tag wait);
    }) ∷ []
waits_at n G me call = []
