use Rattle.std.proofs.Common.{◌≡◌, take}
use Rattle.run_model.specs.Numbers.{communicators_of}
use Rattle.run_states.proofs.origins.origins_of.Given as goal

abbrev pub invariant-loop-at : goal.invariant-loop-at
invariant-loop-at l = l.origins.items ≡ communicators_of l.n (take l.at l.events)
