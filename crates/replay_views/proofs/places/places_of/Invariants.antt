use Rattle.std.proofs.Common.{◌≡◌, ◌++◌, flat_map, length, map}
use Rattle.run_model.specs.Views.{view_of}
use Rattle.replay_views.specs.Places.{message_place_view, places_in_view, places_of}
use Rattle.replay_views.proofs.places.places_of.Given as goal

abbrev pub invariant-loop-rest : goal.invariant-loop-rest
invariant-loop-rest l =
    map message_place_view l.places.items ++ flat_map (λ rank. places_in_view l.name rank (view_of l.by_rank rank)) l.rest ≡ places_of l.name l.by_rank l.group

abbrev pub decreases-loop-rest : goal.decreases-loop-rest
decreases-loop-rest l = length l.rest
