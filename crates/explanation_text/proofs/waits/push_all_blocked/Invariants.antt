use Rattle.std.proofs.Common.{◌≡◌, ◌++◌, List, flat_map, length}
use Rattle.run_model.specs.declared.event.Event.{Event}
use Rattle.wait_graph.specs.Register.{IsRegister}
use Rattle.run_model.specs.Lists.{world}
use Rattle.explanation_text.specs.WaitsTexts.{blocked_text}
use Rattle.explanation_text.proofs.waits.push_all_blocked.Given as goal

abbrev pub invariant-loop-rest : goal.invariant-loop-rest
invariant-loop-rest l =
    (events : List Event) → IsRegister l.n events l.register → l.ranks ≡ world l.n 0
    → l.out ++ flat_map (blocked_text l.n events) l.rest ≡ l.initial.out ++ flat_map (blocked_text l.n events) l.blocked

abbrev pub decreases-loop-rest : goal.decreases-loop-rest
decreases-loop-rest l = length l.rest
