use Rattle.std.proofs.Common.{◌≡◌, ◌++◌, take}
use Rattle.run_states.proofs.pairs.add_met.Given as goal

abbrev pub invariant-loop-one : goal.invariant-loop-one
invariant-loop-one l = l.pairs.items ≡ l.initial.pairs.items ++ take l.one-index l.met
