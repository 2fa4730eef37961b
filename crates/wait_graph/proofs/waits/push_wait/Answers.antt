use Rattle.std.proofs.Common.{◌≡◌, ◌∙◌, ◌++◌, ℕ, List, Some, ap}
use Rattle.run_model.specs.declared.event.Event.{Event}
use Rattle.run_model.specs.Views.{start_at, view_of}
use Rattle.wait_graph.specs.Register.{IsRegister}
use Rattle.wait_graph.specs.Waits.{wait_at}
use Rattle.wait_graph.proofs.Given.{on_ok_as}
use Rattle.wait_graph.proofs.waits.push_wait.Goals as goal

pub returns-in-Some : goal.returns-in-Some
returns-in-Some c =
    let me : ℕ = c.args.me in
    let start : ℕ = c.args.start in
    on_ok_as c.push_unready.result
    ((n : ℕ) (events : List Event) → IsRegister n events c.args.register.now → c.push_unready.new.waits ≡ c.args.waits.now ++ wait_at n events me start (Some c.in-Some.call.now))
    ((n : ℕ) (events : List Event) → IsRegister n events c.args.register.now → c.push_unready.new.waits ≡ c.args.waits.now ++ wait_at n events me start (start_at (view_of events me) start))
    (λ h n events is. h n events is ∙ ap (λ o. c.args.waits.now ++ wait_at n events me start o) (c.in-Some.ensures n events is))
    c.push_unready.ensures
