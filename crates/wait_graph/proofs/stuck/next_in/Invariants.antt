use Rattle.std.proofs.Common.{◌≡◌, ◌&&◌, ℕ, List, find, length}
use Rattle.run_model.specs.declared.event.Event.{Event}
use Rattle.wait_graph.specs.Register.{IsRegister}
use Rattle.wait_graph.specs.Graph.{is_live, waits_for}
use Rattle.wait_graph.proofs.stuck.next_in.Given as goal

abbrev pub invariant-loop-rest : goal.invariant-loop-rest
invariant-loop-rest l = (n : ℕ) (events : List Event) → IsRegister n events l.register
    → find (λ rank. is_live n events rank && waits_for l.waits rank) l.rest ≡ find (λ rank. is_live n events rank && waits_for l.waits rank) l.ranks

abbrev pub decreases-loop-rest : goal.decreases-loop-rest
decreases-loop-rest l = length l.rest
