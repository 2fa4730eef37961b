use Rattle.std.proofs.Common.{◌≡◌, ◌++◌, ℕ, List, flat_map, length}
use Rattle.run_model.specs.declared.event.Event.{Event}
use Rattle.wait_graph.specs.Register.{IsRegister}
use Rattle.explanation_text.specs.WaitsTexts.{awaited_text}
use Rattle.explanation_text.proofs.waits.push_awaited.Given as goal

abbrev pub invariant-loop-rest : goal.invariant-loop-rest
invariant-loop-rest l =
    (n : ℕ) (events : List Event) → IsRegister n events l.register
    → l.out ++ flat_map (awaited_text n events) l.rest ≡ l.initial.out ++ flat_map (awaited_text n events) l.awaited

abbrev pub decreases-loop-rest : goal.decreases-loop-rest
decreases-loop-rest l = length l.rest
