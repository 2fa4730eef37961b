use Rattle.std.proofs.Common.{◌≡◌, ◌++◌, ℕ, List, length}
use Rattle.run_model.specs.declared.event.Event.{Event}
use Rattle.wait_graph.specs.Opens.{opens_of}
use Rattle.wait_graph.specs.Register.{IsRegister}
use Rattle.wait_graph.proofs.register.Register.opens_of.Given as goal

abbrev pub invariant-loop-rest : goal.invariant-loop-rest
invariant-loop-rest l = (n : ℕ) (events : List Event) → IsRegister n events l.self → l.opens ++ opens_of events l.rest l.receiver ≡ opens_of events l.senders l.receiver

abbrev pub decreases-loop-rest : goal.decreases-loop-rest
decreases-loop-rest l = length l.rest
