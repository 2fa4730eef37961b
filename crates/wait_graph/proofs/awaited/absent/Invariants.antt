use Rattle.std.proofs.Common.{◌≡◌, ◌++◌, ◌&&◌, ℕ, List, filter, is_some, length, not}
use Rattle.mpi_call.specs.Needs.{needs}
use Rattle.run_model.specs.declared.event.Event.{Event}
use Rattle.run_model.specs.Communicators.{enter_at}
use Rattle.run_model.specs.Views.{view_of}
use Rattle.wait_graph.specs.Register.{IsRegister}
use Rattle.wait_graph.proofs.awaited.absent.Given as goal

abbrev pub invariant-loop-rest : goal.invariant-loop-rest
invariant-loop-rest l =
    (n : ℕ) (events : List Event) → IsRegister n events l.register
    → l.ranks ++ filter (λ member. needs l.enter l.members l.me member && not (is_some (enter_at n (view_of events member) l.comm l.instance))) l.rest
    ≡ filter (λ member. needs l.enter l.members l.me member && not (is_some (enter_at n (view_of events member) l.comm l.instance))) l.members

abbrev pub decreases-loop-rest : goal.decreases-loop-rest
decreases-loop-rest l = length l.rest
