use Rattle.std.proofs.Common.{◌≡◌, ◌∙◌, List, ℕ, ap}
use Rattle.mpi_call.specs.Needs.{needs}
use Rattle.run_model.specs.declared.event.Event.{Event}
use Rattle.run_model.specs.Communicators.{enter_at, known_in, or_none}
use Rattle.run_model.specs.Views.{view_of}
use Rattle.wait_graph.specs.Register.{IsRegister}
use Rattle.wait_graph.specs.Waits.{absent, absent_for}
use Rattle.wait_graph.proofs.Given.{ok_as}
use Rattle.wait_graph.proofs.awaited.absent_for.Goals as goal

pub returns-in-Some : goal.returns-in-Some
returns-in-Some c =
    let me : ℕ = c.args.me in
    let comm : ℕ = c.args.comm in
    let some : ℕ → List Event → List ℕ → ℕ → List ℕ = λ n events members instance.
    absent (needs c.args.enter.now members me) (λ member. enter_at n (view_of events member) comm instance) members in
    let P : List ℕ → Type 0 = λ ranks. (n : ℕ) (events : List Event) → IsRegister n events c.args.register.now → ranks ≡ some n events c.in-Some.members.now c.count_enters-instance.result in
    let Q : List ℕ → Type 0 = λ ranks. (n : ℕ) (events : List Event) → IsRegister n events c.args.register.now → ranks ≡ absent_for n events me c.args.start comm c.args.enter.now in
    ok_as c.absent.result P Q (λ ranks h n events is.
    h n events is
    ∙ ap (λ members. some n events members c.count_enters-instance.result) (ap or_none (c.in-Some.ensures n events is))
    ∙ ap (some n events (or_none (known_in n (view_of events me) comm))) (c.count_enters-instance.ensures n events is))
    c.absent.ensures
