-- Whether a rank looks in vain too often is seen in its view, so it is told alike of runs that leave the same.
use Rattle.std.proofs.Common.{◌≡◌, ◌<◌, ◌∙◌, ◌++◌, ◌∷◌, ◌==◌, if◌then◌else◌, Bool, ℕ, List, [], true, false, inl, inr, refl, ap, sym, subst}
use Rattle.std.proofs.lemmas.Bool.{eq-eqb, eqb-true}
use Rattle.mpi_call.specs.declared.call.Call.{Call}
use Rattle.mpi_call.specs.declared.reply.Reply.{Reply}
use Rattle.mpi_call.specs.declared.reply.Reply.TheVariants.{NotYet}
use Rattle.run_model.specs.declared.event.Event.{Event}
use Rattle.run_model.specs.Lists.{Along}
use Rattle.run_model.specs.Views.{View, view_of}
use Rattle.run_model.proofs.Views.{test_cases, view_of-append, view_of-mine, view_of-other}
use Rattle.run_states.specs.Outcomes.{IsPatientEvent, vain_in}

abbrev IsSteadySeen : ℕ → View → Call × Reply → Type 0
IsSteadySeen most own seen = seen.1 ≡ NotYet → vain_in own < most

abbrev IsSteadyView : ℕ → View → View → Type 0
IsSteadyView most own more = Along (IsSteadySeen most) own more

seen_by : Bool → Event → List Event → ℕ → View
seen_by mine event events rank = if mine then (event.call, event.reply) ∷ view_of events rank else view_of events rank

seen_mine : (event : Event) (events : List Event) (rank : ℕ) → (event.rank == rank) ≡ true → view_of (event ∷ events) rank ≡ (event.call, event.reply) ∷ view_of events rank
seen_mine event events rank t = rw t

seen_other : (event : Event) (events : List Event) (rank : ℕ) → (event.rank == rank) ≡ false → view_of (event ∷ events) rank ≡ view_of events rank
seen_other event events rank f = rw f

to_views : (most : ℕ) (before events : List Event) (rank : ℕ) → Along (IsPatientEvent most) before events → IsSteadyView most (view_of before rank) (view_of events rank)
to_views most before [] rank h = tt
to_views most before (event ∷ events) rank h =
    let V : View → Type 0 = λ v. IsSteadyView most v (view_of events rank) in
    let W : View → Type 0 = λ v. IsSteadyView most (view_of before rank) v in
    let later = to_views most (before ++ event ∷ []) events rank h.1 in
    elim (test_cases (event.rank == rank)) [
      | inl t ↦
          let mine : event.rank ≡ rank = eqb-true event.rank rank t in
          let F : ℕ → Type 0 = λ r. event.reply ≡ NotYet → vain_in (view_of before r) < most in
          subst W (sym (seen_mine event events rank t)) (subst F mine h.0, subst V (view_of-mine before event rank mine) later)
      | inr f ↦ subst W (sym (seen_other event events rank f)) (subst V (view_of-other before event rank f) later)
    ]

view_later : (most : ℕ) (before events : List Event) (event : Event) (rank : ℕ) → IsSteadyView most (view_of before rank) (view_of (event ∷ events) rank)
    → IsSteadyView most (view_of (before ++ event ∷ []) rank) (view_of events rank)
view_later most before events event rank h =
    let V : View → Type 0 = λ v. IsSteadyView most v (view_of events rank) in
    let W : View → Type 0 = λ v. IsSteadyView most (view_of before rank) v in
    elim (test_cases (event.rank == rank)) [
      | inl t ↦
          let here : IsSteadyView most (view_of before rank) ((event.call, event.reply) ∷ view_of events rank) = subst W (seen_mine event events rank t) h in
          subst V (sym (view_of-mine before event rank (eqb-true event.rank rank t))) here.1
      | inr f ↦ subst V (sym (view_of-other before event rank f)) (subst W (seen_other event events rank f) h)
    ]

from_views : (most : ℕ) (before events : List Event) → ((rank : ℕ) → IsSteadyView most (view_of before rank) (view_of events rank)) → Along (IsPatientEvent most) before events
from_views most before [] h = tt
from_views most before (event ∷ events) h =
    let W : View → Type 0 = λ v. IsSteadyView most (view_of before event.rank) v in
    let here : IsSteadyView most (view_of before event.rank) ((event.call, event.reply) ∷ view_of events event.rank) =
    subst W (seen_mine event events event.rank (eq-eqb event.rank event.rank refl)) (h event.rank) in
    (here.0, from_views most (before ++ event ∷ []) events (λ rank. view_later most before events event rank (h rank)))

append_same : {A : Type 0} (xs ys zs : List A) → xs ++ ys ≡ xs ++ zs → ys ≡ zs
append_same [] ys zs h = h
append_same (x ∷ xs) ys zs h = (let tails : xs ++ ys ≡ xs ++ zs = cc in append_same xs ys zs tails)

pub patient_alike : (most : ℕ) (one other more rest : List Event) → ((rank : ℕ) → view_of one rank ≡ view_of other rank)
    → ((rank : ℕ) → view_of (one ++ more) rank ≡ view_of (other ++ rest) rank) → Along (IsPatientEvent most) one more → Along (IsPatientEvent most) other rest
patient_alike most one other more rest same whole patient =
    from_views most other rest (λ rank. (
    let own : View = view_of other rank in
    let joined : own ++ view_of more rank ≡ own ++ view_of rest rank =
    ap (λ v. v ++ view_of more rank) (sym (same rank)) ∙ (sym (view_of-append one more rank) ∙ (whole rank ∙ view_of-append other rest rank)) in
    let V : View → Type 0 = λ v. IsSteadyView most v (view_of more rank) in
    let W : View → Type 0 = λ v. IsSteadyView most own v in
    subst W (append_same own (view_of more rank) (view_of rest rank) joined) (subst V (same rank) (to_views most one more rank patient))))
