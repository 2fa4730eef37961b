use Rattle.std.specs.Prelude.{◌≡◌, false, replicate}
use Rattle.explore.proofs.races.Races.none.Given as goal

abbrev pub invariant-loop-rank : goal.invariant-loop-rank
invariant-loop-rank l = l.flags.items ≡ replicate l._rank false
