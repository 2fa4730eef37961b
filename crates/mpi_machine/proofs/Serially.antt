-- Attempts on a machine are the attempts that make a serial run.
use Rattle.std.proofs.Common.{◌≡◌, ◌≢◌, ◌||◌, ◌&&◌, ◌==◌, ◌∙◌, ◌<◌, ◌∷◌, Bool, List, None, Option, Some, [], ap, arith, false, filter, inl, inr, is_some, length, not, refl, subst, sym, true, ℕ}
use Rattle.std.proofs.lemmas.Bool.{eq-eqb, eqb-true}
use Rattle.std.proofs.lemmas.List.{get_or-set_other, get_or-set_same}
use Rattle.std.specs.List.{list_all, slice_set}
use Rattle.mpi_call.specs.declared.call.Call.{Call}
use Rattle.mpi_call.specs.Members.{is_member}
use Rattle.run_model.specs.declared.event.Event.{Event}
use Rattle.run_model.specs.Allowed.{can_go}
use Rattle.run_model.specs.Lists.{world}
use Rattle.run_model.specs.Serial.{Stage, attempt, attempt_with, call_after, is_stuck, others_wait}
use Rattle.run_model.specs.Views.{Next, view_of}
use Rattle.run_model.proofs.Views.{test_cases}
use Rattle.mpi_machine.specs.Turns.{MachineState, IsAtStage, after_answer, waiting_call, stage_of, attempt_answer, waiting_from}
use Rattle.mpi_machine.proofs.WaitingRanks.{kept_waits}

all_same : (f g : ℕ → Bool) (xs : List ℕ) → ((m : ℕ) → f m ≡ g m) → list_all f xs ≡ list_all g xs
all_same f g [] h = refl
all_same f g (x ∷ xs) h = rw (h x, all_same f g xs h) refl

apart_eqb : (a b : ℕ) → a ≢ b → (a == b) ≡ false
apart_eqb a b apart = elim (test_cases (a == b)) [ inl h ↦ absurd (apart (eqb-true a b h)) | inr h ↦ h ]

-- a rank among those that are left
left_same : (rank : ℕ) (xs : List ℕ) → is_member (filter (λ other. not (other == rank)) xs) rank ≡ false
left_same rank [] = refl
left_same rank (x ∷ xs) =
    elim (test_cases (x == rank)) [
      | inl h ↦ rw h (left_same rank xs)
      | inr h ↦ rw h (rw h (left_same rank xs))
    ]

left_other : (rank other : ℕ) (xs : List ℕ) → other ≢ rank → is_member (filter (λ m. not (m == rank)) xs) other ≡ is_member xs other
left_other rank other [] apart = refl
left_other rank other (x ∷ xs) apart =
    elim (test_cases (x == rank)) [
      | inl h ↦ (
          let same : x ≡ rank = eqb-true x rank h in
          let no : (x == other) ≡ false = apart_eqb x other (λ e. apart (sym e ∙ same)) in
          rw (h, no) (left_other rank other xs apart))
      | inr h ↦ rw h (ap (λ b. (x == other) || b) (left_other rank other xs apart))
    ]

pub record Waiting (waiting : List ℕ) (kept : List (Option Call)) : Type 0 where
  pub same : (rank : ℕ) → is_member waiting rank ≡ is_some (waiting_call kept rank)

pub answered_waiting : (waiting : List ℕ) (kept : List (Option Call)) (rank : ℕ) → rank < length kept → Waiting waiting kept
    → Waiting (filter (λ other. not (other == rank)) waiting) (slice_set kept rank None)
answered_waiting waiting kept rank below w =
    record {
      same = λ other. elim (test_cases (rank == other)) [
        | inl h ↦ (
            let same : rank ≡ other = eqb-true rank other h in
            let F : ℕ → Type 0 = λ r. is_member (filter (λ m. not (m == rank)) waiting) r ≡ is_some (waiting_call (slice_set kept rank None) r) in
            let own : F rank = left_same rank waiting ∙ sym (ap (λ (c : Option Call). is_some c) (get_or-set_same kept rank None None below)) in
            subst F same own)
        | inr h ↦ (
            let apart : other ≢ rank = λ e. (let no : true ≡ false = sym (eq-eqb rank other (sym e)) ∙ h in absurd (cc)) in
            left_other rank other waiting apart ∙ (w.same other ∙ sym (ap (λ (c : Option Call). is_some c) (get_or-set_other kept rank other None None apart))))
      ];
    }

kept_waiting : (waiting : List ℕ) (kept : List (Option Call)) (rank : ℕ) (call : Call) → rank < length kept → Waiting waiting kept
    → Waiting (rank ∷ waiting) (slice_set kept rank (Some call))
kept_waiting waiting kept rank call below w =
    record {
      same = λ other. elim (test_cases (rank == other)) [
        | inl h ↦ (
            let same : rank ≡ other = eqb-true rank other h in
            let F : ℕ → Type 0 = λ r. is_member (rank ∷ waiting) r ≡ is_some (waiting_call (slice_set kept rank (Some call)) r) in
            let own : F rank = rw (eq-eqb rank rank refl) (sym (ap (λ (c : Option Call). is_some c) (get_or-set_same kept rank (Some call) None below))) in
            subst F same own)
        | inr h ↦ (
            let apart : other ≢ rank = λ e. (let no : true ≡ false = sym (eq-eqb rank other (sym e)) ∙ h in absurd (cc)) in
            rw h (w.same other ∙ sym (ap (λ (c : Option Call). is_some c) (get_or-set_other kept rank other (Some call) None apart))))
      ];
    }

abbrev machine_with : {P : Type 0} → P → ℕ → List Event → List (Option Call) → MachineState P
machine_with program n events kept = record { program = program; ranks = n; events = events; kept = kept }

abbrev stage_with : List Event → List ℕ → Stage
stage_with events waiting = record { events = events; waiting = waiting }

attempted : {P : Type 0} (program : P) (next : Next) (n : ℕ) (events : List Event) (kept : List (Option Call)) (waiting : List ℕ) (rank : ℕ) (call : Call)
    → length kept ≡ n → rank < n → Waiting waiting kept
    → IsAtStage (after_answer (machine_with program n events kept) rank call (attempt_answer next n events kept rank call))
    (attempt_with next n (stage_with events waiting) rank (Some call))
attempted program next n events kept waiting rank call many below w =
    let go : Bool = can_go n events rank (view_of events rank) call in
    let stage : Stage = stage_with events waiting in
    let same : others_wait next n stage rank ≡ others_wait next n (stage_of events kept) rank =
    all_same (λ other. (other == rank) || (not (is_some (call_after next n events other)) || is_member waiting other))
    (λ other. (other == rank) || (not (is_some (call_after next n events other)) || is_member (waiting_from 0 kept) other))
    (world n 0)
    (λ other. ap (λ b. (other == rank) || (not (is_some (call_after next n events other)) || b)) (w.same other ∙ sym (kept_waits kept other))) in
    let answered = answered_waiting waiting kept rank (omega arith) w in
    let held = kept_waiting waiting kept rank call (omega arith) w in
    elim (test_cases go) [
      | inl t ↦ rw t (record { events = refl; waiting = answered.same })
      | inr t ↦ elim (test_cases (is_stuck next n events && others_wait next n (stage_of events kept) rank)) [
        | inl u ↦ rw (t, same, u) (record { events = refl; waiting = answered.same })
        | inr u ↦ rw (t, same, u) (record { events = refl; waiting = held.same })
      ]
    ]

pub stands_on : {P : Type 0} (program : P) (next : Next) (n : ℕ) (events : List Event) (kept : List (Option Call)) (rank : ℕ) (call : Call) (stage : Stage)
    → length kept ≡ n → rank < n → call_after next n events rank ≡ Some call
    → IsAtStage (machine_with program n events kept) stage
    → IsAtStage (after_answer (machine_with program n events kept) rank call (attempt_answer next n events kept rank call)) (attempt next n stage rank)
stands_on program next n events kept rank call stage many below asked s =
    let here : stage_with stage.events stage.waiting ≡ stage_with events stage.waiting = ap (λ e. stage_with e stage.waiting) s.events in
    let F : Stage → Type 0 = λ x. IsAtStage (after_answer (machine_with program n events kept) rank call (attempt_answer next n events kept rank call)) (attempt next n x rank) in
    let G : Option Call → Type 0 = λ c. IsAtStage (after_answer (machine_with program n events kept) rank call (attempt_answer next n events kept rank call)) (attempt_with next n (stage_with events stage.waiting) rank c) in
    let one : F (stage_with events stage.waiting) =
    subst G (sym asked) (attempted program next n events kept stage.waiting rank call many below (record { same = s.waiting })) in
    subst F (sym here) one
