-- Runs that go on from a history without a halt, keep their probes and are patient; what leaves the same has its like.
use Rattle.std.proofs.Common.{◌≡◌, ◌∙◌, ◌++◌, ◌∷◌, ℕ, List, [], None, Bool, true, false, append_assoc, inl, inr, refl, ap, sym, subst}
use Rattle.mpi_call.specs.declared.call.Halt.{Halt}
use Rattle.mpi_call.specs.declared.call.Halt.TheVariants.{Mismatched}
use Rattle.run_model.specs.declared.ending.Ending.{Ending}
use Rattle.run_model.specs.declared.ending.Ending.TheVariants.{Finished, Halted}
use Rattle.run_model.specs.declared.event.Event.{Event}
use Rattle.run_model.specs.Due.{halted}
use Rattle.run_model.specs.Endings.{ending_by}
use Rattle.run_model.specs.Lists.{Along}
use Rattle.run_model.specs.Views.{Next, View, view_of}
use Rattle.run_model.proofs.Along.{Along-back, Along-front}
use Rattle.run_model.proofs.Prefixes.{append-cancel}
use Rattle.run_model.proofs.Views.{option_cases, view_of-append}
use Rattle.srr_entry.specs.Outputs.{Output}
use Rattle.run_states.specs.Futures.{SameFuture}
use Rattle.run_states.specs.Outcomes.{IsPatientEvent, IsProbeKept, RunOutcome, reported_ending, outcome_of_run}
use Rattle.run_states.specs.StateLaws.{FuturesAreSame, HasLike, IsPatientStep}
use Rattle.quiet_calls.proofs.Runs.{IsGood}
use Rattle.quiet_calls.proofs.Commuting.{halted_front}
use Rattle.quiet_calls.proofs.Fronting.{good_front}
use Rattle.quiet_calls.proofs.Patience.{IsPatientView, patient_views, views_patient}

-- 1. patience and halts

pub patience_across : (most : ℕ) (one other front rest : List Event) → ((rank : ℕ) → view_of one rank ≡ view_of other rank)
    → ((rank : ℕ) → view_of (one ++ front) rank ≡ view_of (other ++ rest) rank) → Along (IsPatientEvent most) one front → Along (IsPatientEvent most) other rest
patience_across most one other front rest start same patient =
    views_patient most other rest (λ rank. (
    let F : View → Type 0 = λ v. IsPatientView most (view_of other rank) v in
    let G : View → Type 0 = λ v. IsPatientView most v (view_of front rank) in
    let views : view_of front rank ≡ view_of rest rank =
    append-cancel (view_of other rank) (view_of front rank) (view_of rest rank)
    (ap (λ v. v ++ view_of front rank) (sym (start rank)) ∙ (sym (view_of-append one front rank) ∙ (same rank ∙ view_of-append other rest rank))) in
    subst F views (subst G (start rank) (patient_views most one front patient rank))))

abbrev is_finished : Ending → Bool
is_finished Finished = true
is_finished ending = false

halted_told : (halt : Halt) → is_finished (reported_ending (Halted halt)) ≡ false
halted_told (Mismatched rank) = refl
halted_told halt = refl

free_told : (output : Output) (n : ℕ) (one other : List Event) → outcome_of_run output n one ≡ outcome_of_run output n other → halted one ≡ None → halted other ≡ None
free_told output n one other same free =
    elim (option_cases (halted other)) [
      | inl some ↦
          let ends : is_finished (reported_ending (ending_by (halted one))) ≡ is_finished (reported_ending (ending_by (halted other))) =
          ap (λ (o : RunOutcome). is_finished o.ending) same in
          let no : true ≡ false = ap (λ o. is_finished (reported_ending (ending_by o))) (sym free) ∙ (ends ∙ (ap (λ o. is_finished (reported_ending (ending_by o))) some.1 ∙ halted_told some.0)) in
          absurd (cc)
      | inr none ↦ none
    ]

-- 2. what goes on

pub record GoesOn (next : Next) (n most : ℕ) (one front : List Event) : Type 0 where
  pub good : IsGood next n (one ++ front)
  pub free : halted (one ++ front) ≡ None
  pub probes : Along IsProbeKept one front
  pub patient : Along (IsPatientEvent most) one front

pub both_along : (most : ℕ) (before events : List Event) → Along IsProbeKept before events → Along (IsPatientEvent most) before events
    → Along (IsPatientStep most) before events
both_along most before [] kept patient = tt
both_along most before (event ∷ events) kept patient = ((kept.0, patient.0), both_along most (before ++ event ∷ []) events kept.1 patient.1)

pub goes_front : (next : Next) (n most : ℕ) (one xs ys : List Event) → GoesOn next n most one (xs ++ ys) → GoesOn next n most one xs
goes_front next n most one xs ys g =
    let same : one ++ (xs ++ ys) ≡ (one ++ xs) ++ ys = sym (append_assoc one xs ys) in
    let G : List Event → Type 0 = λ l. IsGood next n l in
    record {
      good = good_front next n (one ++ xs) ys (subst G same g.good);
      free = halted_front (one ++ xs) ys (ap halted (sym same) ∙ g.free);
      probes = Along-front IsProbeKept one xs ys g.probes;
      patient = Along-front (IsPatientEvent most) one xs ys g.patient;
    }

pub goes_back : (next : Next) (n most : ℕ) (one xs ys : List Event) → GoesOn next n most one (xs ++ ys) → GoesOn next n most (one ++ xs) ys
goes_back next n most one xs ys g =
    let same : one ++ (xs ++ ys) ≡ (one ++ xs) ++ ys = sym (append_assoc one xs ys) in
    let G : List Event → Type 0 = λ l. IsGood next n l in
    record {
      good = subst G same g.good;
      free = ap halted (sym same) ∙ g.free;
      probes = Along-back IsProbeKept one xs ys g.probes;
      patient = Along-back (IsPatientEvent most) one xs ys g.patient;
    }

-- 3. its like

pub record IsCarriedOver (next : Next) (n most : ℕ) (one other front : List Event) : Type 0 where
  pub rest : List Event
  pub goes : GoesOn next n most other rest
  pub views : (rank : ℕ) → view_of (one ++ front) rank ≡ view_of (other ++ rest) rank

pub carried_over : (next : Next) (output : Output) (n most : ℕ) → FuturesAreSame next output n → (one other front : List Event) → SameFuture n one other → IsGood next n other
    → GoesOn next n most one front → IsCarriedOver next n most one other front
carried_over next output n most futures one other front same good g =
    let like : HasLike next output n one other front = futures one other front g.good.run g.good.numbered good.run good.numbered same in
    record {
      rest = like.rest;
      goes = record {
        good = record { run = like.run; numbered = like.numbered };
        free = free_told output n (one ++ front) (other ++ like.rest) like.outcome g.free;
        probes = like.probes g.probes;
        patient = patience_across most one other front like.rest same.views like.future.views g.patient;
      };
      views = like.future.views;
    }
