-- The text of the places at which a message is sent, found and taken.
use Rattle.std.specs.Prelude.{ℕ, List, [], ◌∷◌, ◌++◌, Bool, true, false, codes, flat_map}
use Rattle.std.specs.List.{list_any}
use Rattle.mpi_call.specs.Members.{is_member}
use Rattle.msg_races.specs.declared.names.Name.{Name}
use Rattle.replay_views.specs.declared.role.Role.{Role}
use Rattle.replay_views.specs.declared.role.Role.TheVariants.{Sent, Found, Took}
use Rattle.replay_views.specs.Places.{MessagePlace}
use Rattle.run_text.specs.CallTexts.{call_text, reply_text}
use Rattle.wiz_base.specs.Decimals.{decimal_text}

-- R:K CALL
abbrev pub spot_text : MessagePlace → List ℕ
spot_text place = decimal_text place.rank ++ codes ":" ++ decimal_text place.number ++ codes " " ++ call_text place.call

-- R:K CALL -> REPLY
abbrev pub answered_text : MessagePlace → List ℕ
answered_text place = spot_text place ++ codes " -> " ++ reply_text place.reply ++ codes "\n"

-- sent R:K CALL, where it is sent
abbrev pub sent_text_by : Role → MessagePlace → List ℕ
sent_text_by Sent place = codes "sent " ++ spot_text place ++ codes "\n"
sent_text_by role place = []

-- the same, by what is done at the place
abbrev pub sent_text : MessagePlace → List ℕ
sent_text place = sent_text_by place.role place

-- found R:K CALL -> REPLY · took R:K CALL -> REPLY, where it is found and taken
abbrev pub got_text_by : Role → MessagePlace → List ℕ
got_text_by Sent place = []
got_text_by Found place = codes "found " ++ answered_text place
got_text_by Took place = codes "took " ++ answered_text place

-- the same, by what is done at the place
abbrev pub got_place_text : MessagePlace → List ℕ
got_place_text place = got_text_by place.role place

-- whether a message is taken
abbrev pub is_taking : Role → Bool
is_taking Took = true
is_taking role = false

-- whether a message is taken at a place
abbrev pub is_taking_place : MessagePlace → Bool
is_taking_place place = is_taking place.role

-- outside, where the sender is not in the group
abbrev pub outside_text : Bool → List ℕ
outside_text true = []
outside_text false = codes "outside\n"

-- never taken, where no rank of the group took it
abbrev pub untaken_text : Bool → List ℕ
untaken_text true = []
untaken_text false = codes "never taken\n"

-- where it is sent, and then where it is found and taken
abbrev pub places_text : Bool → List MessagePlace → List ℕ
places_text inside places =
    flat_map sent_text places ++ outside_text inside ++ flat_map got_place_text places ++ untaken_text (list_any is_taking_place places)

-- unknown, where no call has the name
abbrev pub where_text : Name → List ℕ → List MessagePlace → List ℕ
where_text name group [] = codes "unknown\n"
where_text name group (place ∷ places) = places_text (is_member group name.rank) (place ∷ places)
