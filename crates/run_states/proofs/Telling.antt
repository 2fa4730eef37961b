-- Whether a step keeps probes, and whether it is patient, is told alike after histories that leave the same.
use Rattle.std.proofs.Common.{◌≡◌, ◌∙◌, ◌++◌, ◌∷◌, ◌<◌, ℕ, List, [], ap, sym, subst}
use Rattle.run_model.specs.declared.event.Event.{Event}
use Rattle.run_model.specs.Lists.{Along}
use Rattle.run_model.specs.Views.{View, view_of}
use Rattle.run_states.specs.Futures.{SameEvent, SameFuture}
use Rattle.run_states.specs.Outcomes.{IsPatientEvent, IsProbeKept, vain_in}
use Rattle.run_states.specs.StateLaws.{IsPatientStep}

-- what is wanted of a step is told alike after histories that leave the same
abbrev pub TellsAlike : ℕ → (List Event → Event → Type 0) → Type 0
TellsAlike n IsWanted = (one other : List Event) (a b : Event) → SameFuture n one other → SameEvent one other a b → IsWanted one a → IsWanted other b

pub probes_alike : (n : ℕ) → TellsAlike n IsProbeKept
probes_alike n one other a b same event kept earlier comm source tag wait room sender start sent count seen posted done =
    let view : view_of one a.rank ≡ view_of other b.rank = ap (view_of one) event.rank ∙ same.views b.rank in
    sym event.mate ∙ kept earlier comm source tag wait room sender start sent count (view ∙ seen) (event.call ∙ posted) (event.reply ∙ done)

patience_alike : (n most : ℕ) → TellsAlike n (IsPatientEvent most)
patience_alike n most one other a b same event patient held =
    let view : view_of one a.rank ≡ view_of other b.rank = ap (view_of one) event.rank ∙ same.views b.rank in
    let F : View → Type 0 = λ v. vain_in v < most in
    subst F view (patient (event.reply ∙ held))

pub steps_alike : (n most : ℕ) → TellsAlike n (IsPatientStep most)
steps_alike n most one other a b same event wanted = (probes_alike n one other a b same event wanted.0, patience_alike n most one other a b same event wanted.1)

pub both_along : (most : ℕ) (before events : List Event) → Along IsProbeKept before events → Along (IsPatientEvent most) before events → Along (IsPatientStep most) before events
both_along most before [] kept patient = tt
both_along most before (event ∷ events) kept patient = ((kept.0, patient.0), both_along most (before ++ event ∷ []) events kept.1 patient.1)
