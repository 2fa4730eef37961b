use Rattle.std.proofs.Common.{◌≡◌, take}
use Rattle.other_picks.specs.declared.other.TheConstants.{MOST_OTHER_PICKS}
use Rattle.other_picks.specs.inside.Known.{IsKnown}
use Rattle.other_picks.specs.Others.{others_of}
use Rattle.other_picks.proofs.listing.other_picks.Given as goal

abbrev pub invariant-loop-at : goal.invariant-loop-at
invariant-loop-at l = record {
  known : IsKnown (take l.at l.events) l.known;
  others : l.others ≡ take MOST_OTHER_PICKS (others_of l.n (take l.at l.events));
}
