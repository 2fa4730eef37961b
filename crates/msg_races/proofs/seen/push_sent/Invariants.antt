use Rattle.std.proofs.Common.{◌≡◌, ◌++◌, length}
use Rattle.causes.specs.Clocks.{comes_before}
use Rattle.msg_races.specs.Listing.{open_names}
use Rattle.msg_races.proofs.seen.push_sent.Given as goal

abbrev pub invariant-loop-rest : goal.invariant-loop-rest
invariant-loop-rest l =
    l.others ++ open_names (comes_before l.causes l.arrival.at) l.sender l.starts l.arrival.took l.rest
    ≡ l.initial.others ++ open_names (comes_before l.causes l.arrival.at) l.sender l.starts l.arrival.took l.sent

abbrev pub decreases-loop-rest : goal.decreases-loop-rest
decreases-loop-rest l = length l.rest
