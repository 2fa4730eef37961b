use Rattle.std.proofs.Common.{◌≡◌, ◌++◌, ℕ, List, flat_map, length}
use Rattle.run_model.specs.declared.event.Event.{Event}
use Rattle.wait_graph.specs.Register.{IsRegister}
use Rattle.run_model.specs.Lists.{world}
use Rattle.explanation_text.specs.WaitsTexts.{wait_text}
use Rattle.explanation_text.proofs.waits.push_waits.Given as goal

abbrev pub invariant-loop-rest : goal.invariant-loop-rest
invariant-loop-rest l =
    (n : ℕ) (events : List Event) → IsRegister n events l.register → l.ranks ≡ world n 0
    → l.out ++ flat_map (wait_text n events l.me l.opens) l.rest ≡ l.initial.out ++ flat_map (wait_text n events l.me l.opens) l.waits

abbrev pub decreases-loop-rest : goal.decreases-loop-rest
decreases-loop-rest l = length l.rest
