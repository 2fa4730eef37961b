use Rattle.std.proofs.Common.{◌≡◌}
use Rattle.msg_races.specs.Listing.{receives_below}
use Rattle.msg_races.proofs.races.races.Given as goal

abbrev pub invariant-loop-rank : goal.invariant-loop-rank
invariant-loop-rank l = l.listing ≡ receives_below l.seen.causes l.rank
