use Rattle.std.proofs.Common.{◌≡◌, ◌∙◌, ◌++◌, List, Some, ap, slice_get, sym, take}
use Rattle.std.proofs.lemmas.Option.{slice_get-get_or}
use Rattle.run_model.specs.declared.event.Event.{Event}
use Rattle.run_model.specs.Numbers.{Origin, communicators_of, made_at}
use Rattle.run_model.proofs.Numbered.{communicators_of-push}
use Rattle.run_states.proofs.Coding.{next_taken}
use Rattle.run_states.proofs.origins.origins_of.Goals as goal

pub loop-at-preserved : goal.loop-at-preserved
loop-at-preserved c =
    let events : List Event = c.args.events.now in
    let at = c.loop-at.at in
    let event : Event = c.index-events-at.result in
    let n = c.args.n in
    let there : slice_get events at ≡ Some event =
    slice_get-get_or events at event c.loop-at-test.true ∙ ap (λ (e : Event). Some e) (sym c.index-events-at.is) in
    c.in_ok-add_at.ensures n c.in_ok-all.ensures ∙ (ap (λ (l : List Origin). l ++ made_at n (take at events) event) c.loop-at.invariant
    ∙ (sym (communicators_of-push n (take at events) event) ∙ ap (communicators_of n) (sym (next_taken events at event there))))
