use Rattle.std.proofs.Common.{◌≡◌}
use Rattle.msg_races.specs.Listing.{racing_below}
use Rattle.msg_races.proofs.seen.SeenHistory.others_of.Given as goal

abbrev pub invariant-loop-sender : goal.invariant-loop-sender
invariant-loop-sender l = l.others ≡ racing_below l.self.causes l.arrival l.sender
