use Rattle.std.proofs.Common.{◌≡◌, take}
use Rattle.run_model.specs.Pairs.{pairs_of}
use Rattle.run_states.proofs.pairs.pairs_of.Given as goal

abbrev pub invariant-loop-at : goal.invariant-loop-at
invariant-loop-at l = l.pairs.items ≡ pairs_of (take l.at l.events)
