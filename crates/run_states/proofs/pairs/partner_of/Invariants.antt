use Rattle.std.proofs.Common.{◌≡◌, length}
use Rattle.run_model.specs.Pairs.{partner_of}
use Rattle.run_states.proofs.pairs.partner_of.Given as goal

abbrev pub invariant-loop-rest : goal.invariant-loop-rest
invariant-loop-rest l = partner_of l.rest l.name ≡ partner_of l.pairs l.name

abbrev pub decreases-loop-rest : goal.decreases-loop-rest
decreases-loop-rest l = length l.rest
