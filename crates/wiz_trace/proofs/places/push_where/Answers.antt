use Rattle.std.proofs.Common.{◌∙◌, ◌++◌, ap, Bool, List, ℕ, map, sym}
use Rattle.std.proofs.lemmas.Result.{on_ok_weaker}
use Rattle.replay_views.specs.Places.{message_place_view}
use Rattle.wiz_trace.specs.WhereTexts.{places_text}
use Rattle.wiz_trace.proofs.PlaceLemmas.{some_places}
use Rattle.wiz_trace.proofs.places.push_where.Goals as goal

pub returns-in-len1-up : goal.returns-in-len1-up
returns-in-len1-up c =
    on_ok_weaker c.push_places.result
    (λ grown. grown
    ∙ ap (λ (inside : Bool). c.args.out.now ++ places_text inside (map message_place_view c.args.places.now)) c.is_member.ensures
    ∙ ap (λ (text : List ℕ). c.args.out.now ++ text) (sym (some_places c.args.name c.args.group.now c.args.places.now c.in-len1-up.len_at_least)))
    c.push_places.ensures
