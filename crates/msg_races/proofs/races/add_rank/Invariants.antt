use Rattle.std.proofs.Common.{◌≡◌, ◌<◌, ◌+◌, ◌^◌, ◌++◌, length}
use Rattle.msg_races.specs.Listing.{receives_at, receives_of}
use Rattle.msg_races.proofs.races.add_rank.Given as goal

abbrev pub invariant-loop-rest : goal.invariant-loop-rest
invariant-loop-rest l = record {
  short : l.start + length l.rest < 2 ^ 32;
  same : l.listing ++ receives_at l.seen.causes l.rank l.start l.rest ≡ l.initial.listing ++ receives_of l.seen.causes l.rank;
}

abbrev pub decreases-loop-rest : goal.decreases-loop-rest
decreases-loop-rest l = length l.rest
