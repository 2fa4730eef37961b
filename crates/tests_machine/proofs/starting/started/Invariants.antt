use Rattle.requests.specs.States.{MayStart}
use Rattle.tests_machine.proofs.starting.started.Given as goal

abbrev pub invariant-loop-at : goal.invariant-loop-at
invariant-loop-at g l = MayStart 2 l.at l.requests
