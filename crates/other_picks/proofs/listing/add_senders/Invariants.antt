use Rattle.std.proofs.Common.{◌≡◌, ◌++◌, List, map, filter, take}
use Rattle.run_model.specs.declared.event.Event.{Event}
use Rattle.run_model.specs.Lists.{world}
use Rattle.match_core.specs.Histories.{KnowsUnpaired}
use Rattle.other_picks.specs.declared.other.TheConstants.{MOST_OTHER_PICKS}
use Rattle.other_picks.specs.inside.Known.{could_take, with_sender}
use Rattle.other_picks.proofs.listing.add_senders.Given as goal

abbrev pub invariant-loop-sender : goal.invariant-loop-sender
invariant-loop-sender l = (before : List Event) → KnowsUnpaired before l.known
    → l.others ≡ take MOST_OTHER_PICKS (l.initial.others ++ map (with_sender l.receive) (filter (could_take before l.receive) (world l.sender 0)))
