use Rattle.std.proofs.Common.{◌≡◌, ◌++◌, flat_map, length, map}
use Rattle.replay_views.specs.Places.{message_place_view}
use Rattle.wiz_trace.specs.WhereTexts.{sent_text}
use Rattle.wiz_trace.proofs.places.push_all_sent.Given as goal

abbrev pub invariant-loop-rest : goal.invariant-loop-rest
invariant-loop-rest l =
    l.out ++ flat_map sent_text (map message_place_view l.rest) ≡ l.initial.out ++ flat_map sent_text (map message_place_view l.places)

abbrev pub decreases-loop-rest : goal.decreases-loop-rest
decreases-loop-rest l = length l.rest
