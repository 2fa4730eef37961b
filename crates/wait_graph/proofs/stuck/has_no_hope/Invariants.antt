use Rattle.std.proofs.Common.{◌≡◌, ℕ, List, length}
use Rattle.run_model.specs.declared.event.Event.{Event}
use Rattle.wait_graph.specs.Register.{IsRegister}
use Rattle.wait_graph.specs.Graph.{has_no_hope}
use Rattle.wait_graph.proofs.stuck.has_no_hope.Given as goal

abbrev pub invariant-loop-rest : goal.invariant-loop-rest
invariant-loop-rest l = (n : ℕ) (events : List Event) → IsRegister n events l.register → has_no_hope n events l.rest ≡ has_no_hope n events l.waits

abbrev pub decreases-loop-rest : goal.decreases-loop-rest
decreases-loop-rest l = length l.rest
