use Rattle.plan_advice.proofs.Idle.{empty_run}
use Rattle.plan_advice.proofs.tests.nothing.Goals as goal

pub returns : goal.returns
returns c = λ n some few. rw c.new.ensures (empty_run n some few)
