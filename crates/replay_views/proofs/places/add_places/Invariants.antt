use Rattle.std.proofs.Common.{length, map}
use Rattle.replay_views.specs.Places.{message_place_view}
use Rattle.replay_views.proofs.PlaceLemmas.{PlacedSoFar}
use Rattle.replay_views.proofs.places.add_places.Given as goal

abbrev pub invariant-loop-rest : goal.invariant-loop-rest
invariant-loop-rest l =
    PlacedSoFar l.name l.rank (map (λ event. (event.now.call, event.now.reply)) l.own) (map (λ event. (event.now.call, event.now.reply)) l.rest) l.number l.made
    (map message_place_view l.initial.places.items) (map message_place_view l.places.items)

abbrev pub decreases-loop-rest : goal.decreases-loop-rest
decreases-loop-rest l = length l.rest
