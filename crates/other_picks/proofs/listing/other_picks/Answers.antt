use Rattle.std.proofs.Common.{◌≡◌, ◌+◌, ◌∙◌, ◌++◌, ◌∷◌, [], List, Some, ap, arith, slice_get, subst, sym, take}
use Rattle.std.proofs.lemmas.Option.{slice_get-get_or}
use Rattle.run_model.specs.declared.event.Event.{Event}
use Rattle.other_picks.specs.declared.other.OtherPick.{OtherPick}
use Rattle.other_picks.specs.declared.other.TheConstants.{MOST_OTHER_PICKS}
use Rattle.other_picks.specs.inside.Known.{IsKnown}
use Rattle.other_picks.specs.Others.{AreApart, others_of}
use Rattle.other_picks.proofs.Apart.{others_apart}
use Rattle.other_picks.proofs.Cutting.{take_whole}
use Rattle.other_picks.proofs.Reading.{event_at, found_more, next_taken}
use Rattle.other_picks.proofs.listing.other_picks.Goals as goal

pub add_others-requires-clause-event : goal.add_others-requires-clause-event
add_others-requires-clause-event c =
    let events : List Event = c.as_slice-events.result.now in
    let there : slice_get events c.loop-at.at ≡ Some c.index-events-at.result =
    slice_get-get_or events c.loop-at.at c.index-events-at.result c.loop-at-test.true ∙ ap (λ (e : Event). Some e) (sym c.index-events-at.is) in
    event_at c.args.n [] events c.requires.0 c.loop-at.at c.index-events-at.result (rw c.as_slice-events.ensures.events c.requires.1) there

pub note-requires-clause-event : goal.note-requires-clause-event
note-requires-clause-event c =
    let events : List Event = c.as_slice-events.result.now in
    let there : slice_get events c.loop-at.at ≡ Some c.index-events-at.result =
    slice_get-get_or events c.loop-at.at c.index-events-at.result c.loop-at-test.true ∙ ap (λ (e : Event). Some e) (sym c.index-events-at.is) in
    (c.args.n, event_at c.args.n [] events c.requires.0 c.loop-at.at c.index-events-at.result (rw c.as_slice-events.ensures.events c.requires.1) there)

pub loop-at-preserved : goal.loop-at-preserved
loop-at-preserved c =
    let events : List Event = c.as_slice-events.result.now in
    let event : Event = c.index-events-at.result in
    let there : slice_get events c.loop-at.at ≡ Some event =
    slice_get-get_or events c.loop-at.at c.index-events-at.result c.loop-at-test.true ∙ ap (λ (e : Event). Some e) (sym c.index-events-at.is) in
    let taken : take (c.loop-at.at + 1) events ≡ take c.loop-at.at events ++ event ∷ [] = next_taken events c.loop-at.at event there in
    let K : List Event → Type 0 = λ l. IsKnown l c.note.new.self in
    let F : List Event → Type 0 = λ l. c.add_others.new.others ≡ take MOST_OTHER_PICKS (others_of c.args.n l) in
    record {
      known = subst K (sym taken) c.in_ok-note.ensures;
      others = subst F (sym taken)
          (found_more c.args.n MOST_OTHER_PICKS (take c.loop-at.at events) event c.loop-at.others c.add_others.new.others c.loop-at.invariant.others c.in_ok-add_others.ensures);
    }

pub returns-clause-apart : goal.returns-clause-apart
returns-clause-apart c =
    let events : List Event = c.as_slice-events.result.now in
    let whole : take c.loop-at.at events ≡ events = take_whole c.loop-at.at events (omega arith) in
    let list : c.loop-at.others ≡ take MOST_OTHER_PICKS (others_of c.args.n c.args.history.now.events) =
    c.loop-at.invariant.others ∙ ap (λ l. take MOST_OTHER_PICKS (others_of c.args.n l)) (whole ∙ c.as_slice-events.ensures.events) in
    let A : List OtherPick → Type 0 = λ l. AreApart l in
    subst A (sym list) (others_apart c.args.n c.args.history.now.events c.requires.0 MOST_OTHER_PICKS c.requires.1)
