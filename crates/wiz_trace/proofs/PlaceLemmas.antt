-- Lines of the places of a message.
use Rattle.std.proofs.Common.{◌≡◌, ◌<◌, ℕ, List, [], ◌∷◌, arith, length, map, refl}
use Rattle.mpi_call.specs.Members.{is_member}
use Rattle.msg_races.specs.declared.names.Name.{Name}
use Rattle.replay_views.specs.declared.places.MessagePlace as lent
use Rattle.replay_views.specs.Places.{MessagePlace, message_place_view}
use Rattle.wiz_trace.specs.WhereTexts.{places_text, where_text}

-- where there is some place, the places are told
pub some_places : (name : Name) (group : List ℕ) (places : List lent.MessagePlace) → 0 < length places
    → where_text name group (map message_place_view places) ≡ places_text (is_member group name.rank) (map message_place_view places)
some_places name group [] some = absurd (omega (arith, some))
some_places name group (place ∷ places) some = refl
