use Rattle.std.proofs.Common.{subst, sym}
use Rattle.requests.specs.States.{MayStart, MatchingState}
use Rattle.tests_machine.proofs.Positions.{may_first}
use Rattle.tests_machine.proofs.starting.started.Goals as goal

pub loop-at-init : goal.loop-at-init
loop-at-init g c =
    let F : MatchingState → Type 0 = λ s. MayStart 2 0 s in
    subst F (sym c.in_ok-requests.ensures.value) may_first
