use Rattle.std.proofs.Common.{arith}
use Rattle.plan_advice.proofs.Idle.{empty_run}
use Rattle.tests_machine.proofs.advice.nothing.Goals as goal

pub returns : goal.returns
returns c = rw c.new.ensures (empty_run 2 (omega arith) (omega arith))
