use Rattle.std.proofs.Common.{◌≡◌, ◌++◌, ℕ, List, length}
use Rattle.run_model.specs.declared.event.Event.{Event}
use Rattle.wait_graph.specs.Register.{IsRegister}
use Rattle.run_model.specs.Views.{view_of}
use Rattle.explanation_text.specs.WaitsTexts.{taken_texts}
use Rattle.explanation_text.proofs.waits.push_all_taken.Given as goal

abbrev pub invariant-loop-rest : goal.invariant-loop-rest
invariant-loop-rest l =
    (n : ℕ) (events : List Event) → IsRegister n events l.register
    → l.out ++ taken_texts (view_of events l.me) l.me l.comm l.source l.tag l.rest ≡ l.initial.out ++ taken_texts (view_of events l.me) l.me l.comm l.source l.tag l.senders

abbrev pub decreases-loop-rest : goal.decreases-loop-rest
decreases-loop-rest l = length l.rest
