use Rattle.std.proofs.Common.{◌≡◌, ◌++◌, ℕ, List, length}
use Rattle.run_model.specs.declared.event.Event.{Event}
use Rattle.wait_graph.specs.Register.{IsRegister}
use Rattle.wait_graph.specs.Waits.{waits_in}
use Rattle.wait_graph.proofs.waits.waits_in.Given as goal

abbrev pub invariant-loop-rest : goal.invariant-loop-rest
invariant-loop-rest l = (n : ℕ) (events : List Event) → IsRegister n events l.register → l.waits ++ waits_in n events l.me l.rest ≡ waits_in n events l.me l.starts

abbrev pub decreases-loop-rest : goal.decreases-loop-rest
decreases-loop-rest l = length l.rest
