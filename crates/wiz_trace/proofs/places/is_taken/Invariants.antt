use Rattle.std.proofs.Common.{◌≡◌, length, map}
use Rattle.std.specs.List.{list_any}
use Rattle.replay_views.specs.Places.{message_place_view}
use Rattle.wiz_trace.specs.WhereTexts.{is_taking_place}
use Rattle.wiz_trace.proofs.places.is_taken.Given as goal

abbrev pub invariant-loop-rest : goal.invariant-loop-rest
invariant-loop-rest l = list_any is_taking_place (map message_place_view l.rest) ≡ list_any is_taking_place (map message_place_view l.places)

abbrev pub decreases-loop-rest : goal.decreases-loop-rest
decreases-loop-rest l = length l.rest
