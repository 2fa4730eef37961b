use Rattle.std.proofs.Common.{◌≡◌, ◌∷◌, [], ℕ, List, None}
use Rattle.run_model.specs.declared.event.Event.{Event}
use Rattle.wait_graph.specs.declared.wait.Wait.{Wait}
use Rattle.wait_graph.specs.Register.{IsRegister}
use Rattle.wait_graph.specs.Waits.{awaited_by, waits_at}
use Rattle.wait_graph.proofs.Gathered.{probe_waits}
use Rattle.wait_graph.proofs.Given.{ok_as}
use Rattle.wait_graph.proofs.waits.waits_at.Goals as goal

pub returns-in-Peek : goal.returns-in-Peek
returns-in-Peek c =
    ok_as c.wait_with_probe.result
    (λ (waits : List Wait). (n : ℕ) (events : List Event) → IsRegister n events c.args.register.now → waits ≡ (record { start = None; call = c.args.call.now; awaited = awaited_by n events c.args.me 0 c.args.call.now }) ∷ [])
    (λ (waits : List Wait). (n : ℕ) (events : List Event) → IsRegister n events c.args.register.now → waits ≡ waits_at n events c.args.me c.args.call.now)
    (λ waits h n events is. probe_waits n events c.args.me c.args.call.now c.in-Peek.comm c.in-Peek.source c.in-Peek.tag c.in-Peek.wait waits c.in-Peek.is (h n events is))
    c.wait_with_probe.ensures
