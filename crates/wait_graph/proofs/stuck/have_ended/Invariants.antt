use Rattle.std.proofs.Common.{◌≡◌, ℕ, List, length, not}
use Rattle.std.specs.List.{list_all}
use Rattle.run_model.specs.declared.event.Event.{Event}
use Rattle.wait_graph.specs.Register.{IsRegister}
use Rattle.wait_graph.specs.Graph.{is_live}
use Rattle.wait_graph.proofs.stuck.have_ended.Given as goal

abbrev pub invariant-loop-rest : goal.invariant-loop-rest
invariant-loop-rest l = (n : ℕ) (events : List Event) → IsRegister n events l.register
    → list_all (λ rank. not (is_live n events rank)) l.rest ≡ list_all (λ rank. not (is_live n events rank)) l.ranks

abbrev pub decreases-loop-rest : goal.decreases-loop-rest
decreases-loop-rest l = length l.rest
