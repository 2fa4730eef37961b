use Rattle.std.proofs.Common.{◌+◌, ℕ, ap, arith, map, refl, subst}
use Rattle.run_model.specs.Views.{View}
use Rattle.srr_entry.proofs.Making.{map_front}
use Rattle.replay_views.specs.Places.{message_place_view}
use Rattle.replay_views.proofs.GivenLemmas.{map_none, seen_length}
use Rattle.replay_views.proofs.PlaceLemmas.{PlacedSoFar, made_room, number_room, placed_all, placed_more, placed_none}
use Rattle.replay_views.proofs.places.add_places.Goals as goal

pub loop-rest-init : goal.loop-rest-init
loop-rest-init c = placed_none c.args.name c.args.rank (map (λ event. (event.now.call, event.now.reply)) c.args.own.now) (map message_place_view c.args.places.now.items)

pub loop-rest-preserved : goal.loop-rest-preserved
loop-rest-preserved c =
    let event = c.event-item.result.now in
    let front = map_front (λ event. (event.now.call, event.now.reply)) c.loop-rest.rest.now c.event-item.result c.in-len1-up.len_at_least c.event-item.is in
    let F : View → Type 0 = λ left. PlacedSoFar c.args.name c.args.rank (map (λ event. (event.now.call, event.now.reply)) c.args.own.now) left c.loop-rest.number c.loop-rest.made (map message_place_view c.args.places.now.items) (map message_place_view c.loop-rest.places.items) in
    placed_more c.args.name c.args.rank (map (λ event. (event.now.call, event.now.reply)) c.args.own.now) _ event.call event.reply c.loop-rest.number _ c.loop-rest.made _ (map message_place_view c.args.places.now.items) (map message_place_view c.loop-rest.places.items) _
    (subst F front c.loop-rest.invariant) c.in_ok-add_place.ensures refl (ap (λ (k : ℕ). c.loop-rest.made + k) c.starts_in-made.ensures.count)

pub returns : goal.returns
returns c =
    let none = map_none (λ event. (event.now.call, event.now.reply)) c.loop-rest.rest.now c.in_default.len_below in
    let F : View → Type 0 = λ left. PlacedSoFar c.args.name c.args.rank (map (λ event. (event.now.call, event.now.reply)) c.args.own.now) left c.loop-rest.number c.loop-rest.made (map message_place_view c.args.places.now.items) (map message_place_view c.loop-rest.places.items) in
    placed_all c.args.name c.args.rank (map (λ event. (event.now.call, event.now.reply)) c.args.own.now) c.loop-rest.number c.loop-rest.made (map message_place_view c.args.places.now.items) (map message_place_view c.loop-rest.places.items) (subst F none c.loop-rest.invariant)

pub overflow_add-number : goal.overflow_add-number
overflow_add-number c =
    let within = number_room c.args.name c.args.rank _ _ c.loop-rest.number c.loop-rest.made _ _ c.loop-rest.invariant in
    let rest = seen_length c.loop-rest.rest.now in
    let all = seen_length c.args.own.now in
    omega (arith, within, rest, all)

pub overflow_add-made : goal.overflow_add-made
overflow_add-made c =
    let within = made_room c.args.name c.args.rank _ _ c.loop-rest.number c.loop-rest.made _ _ c.loop-rest.invariant in
    let rest = seen_length c.loop-rest.rest.now in
    let all = seen_length c.args.own.now in
    let few = c.starts_in-made.ensures.few in
    omega (arith, within, rest, all, few)
