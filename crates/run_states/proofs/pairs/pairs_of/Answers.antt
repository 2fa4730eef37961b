use Rattle.std.proofs.Common.{◌≡◌, ◌∙◌, ◌++◌, List, Some, ap, append_assoc, slice_get, sym, take}
use Rattle.std.proofs.lemmas.Option.{slice_get-get_or}
use Rattle.run_model.specs.declared.event.Event.{Event}
use Rattle.run_model.specs.Pairs.{Name, mated, pairs_of}
use Rattle.picked_runs.proofs.Grown.{pairs_of-push}
use Rattle.run_states.proofs.Coding.{next_taken}
use Rattle.run_states.proofs.pairs.pairs_of.Goals as goal

pub loop-at-preserved : goal.loop-at-preserved
loop-at-preserved c =
    let events : List Event = c.args.events.now in
    let at = c.loop-at.at in
    let event : Event = c.index-events-at.result in
    let there : slice_get events at ≡ Some event =
    slice_get-get_or events at event c.loop-at-test.true ∙ ap (λ (e : Event). Some e) (sym c.index-events-at.is) in
    c.in_ok-add_met.ensures ∙ (ap (λ (m : List (Name × Name)). c.add_mated.new.pairs.items ++ m) c.as_slice.ensures ∙ (ap (λ (l : List (Name × Name)). l ++ event.met) (c.in_ok-add_mated.ensures ∙ ap (λ (l : List (Name × Name)). l ++ mated (take at events) event) c.loop-at.invariant)
    ∙ (append_assoc (pairs_of (take at events)) (mated (take at events) event) event.met
    ∙ (sym (pairs_of-push (take at events) event) ∙ ap pairs_of (sym (next_taken events at event there))))))
