-- Whether what goes on is patient shows in what each rank sees.
use Rattle.std.proofs.Common.{◌≡◌, ◌<◌, ◌++◌, ◌==◌, ◌∷◌, ℕ, List, [], true, inl, inr, refl, sym, subst}
use Rattle.std.proofs.lemmas.Bool.{eq-eqb, eqb-true}
use Rattle.mpi_call.specs.declared.reply.Reply.TheVariants.{NotYet}
use Rattle.run_model.specs.declared.event.Event.{Event}
use Rattle.run_model.specs.Lists.{Along}
use Rattle.run_model.specs.Views.{View, view_of}
use Rattle.run_model.proofs.Views.{test_cases, view_of-mine, view_of-other}
use Rattle.run_states.specs.Outcomes.{IsPatientEvent, vain_in}

-- of one rank
abbrev pub IsPatientView : ℕ → View → View → Type 0
IsPatientView most own [] = Unit {0}
IsPatientView most own (seen ∷ view) = (seen.1 ≡ NotYet → vain_in own < most) × IsPatientView most (own ++ seen ∷ []) view

pub patient_views : (most : ℕ) (before events : List Event) → Along (IsPatientEvent most) before events → (rank : ℕ)
    → IsPatientView most (view_of before rank) (view_of events rank)
patient_views most before [] patient rank = tt
patient_views most before (event ∷ events) patient rank =
    let rest : IsPatientView most (view_of (before ++ event ∷ []) rank) (view_of events rank) = patient_views most (before ++ event ∷ []) events patient.1 rank in
    elim (test_cases (event.rank == rank)) [
      | inl t ↦
          let same : event.rank ≡ rank = eqb-true event.rank rank t in
          let F : View → Type 0 = λ v. IsPatientView most v (view_of events rank) in
          let G : ℕ → Type 0 = λ r. event.reply ≡ NotYet → vain_in (view_of before r) < most in
          rw t (subst G same patient.0, subst F (view_of-mine before event rank same) rest)
      | inr f ↦
          let F : View → Type 0 = λ v. IsPatientView most v (view_of events rank) in
          rw f (subst F (view_of-other before event rank f) rest)
    ]

pub views_patient : (most : ℕ) (before events : List Event) → ((rank : ℕ) → IsPatientView most (view_of before rank) (view_of events rank))
    → Along (IsPatientEvent most) before events
views_patient most before [] all = tt
views_patient most before (event ∷ events) all =
    let V : ℕ → Type 0 = λ r. IsPatientView most (view_of before r) (view_of (event ∷ events) r) in
    let t : (event.rank == event.rank) ≡ true = eq-eqb event.rank event.rank refl in
    let own : (event.reply ≡ NotYet → vain_in (view_of before event.rank) < most)
    × IsPatientView most (view_of before event.rank ++ (event.call, event.reply) ∷ []) (view_of events event.rank) = rw t at (all event.rank) in (
      own.0,
      views_patient most (before ++ event ∷ []) events (λ rank. elim (test_cases (event.rank == rank)) [
        | inl t ↦
            let same : event.rank ≡ rank = eqb-true event.rank rank t in
            let F : View → Type 0 = λ v. IsPatientView most v (view_of events rank) in
            let here : (event.reply ≡ NotYet → vain_in (view_of before rank) < most)
            × IsPatientView most (view_of before rank ++ (event.call, event.reply) ∷ []) (view_of events rank) = rw t at (all rank) in
            subst F (sym (view_of-mine before event rank same)) here.1
        | inr f ↦
            let F : View → Type 0 = λ v. IsPatientView most v (view_of events rank) in
            let here : IsPatientView most (view_of before rank) (view_of events rank) = rw f at (all rank) in
            subst F (sym (view_of-other before event rank f)) here
      ]),
    )
