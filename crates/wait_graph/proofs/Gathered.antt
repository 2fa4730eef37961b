-- A collective's start is ready if nobody is absent.
use Rattle.std.proofs.Common.{◌≡◌, ◌∙◌, ◌∷◌, ◌==◌, [], ℕ, ℤ, List, Option, Some, None, Ok, Err, Result, Bool, true, false, inl, inr, ap, arith, is_some, length, refl, subst, sym}
use Rattle.std.proofs.lemmas.Bool.{eqb-true}
use Rattle.mpi_call.specs.declared.call.Call.{Call}
use Rattle.mpi_call.specs.declared.call.Call.TheVariants.{Enter, Peek}
use Rattle.mpi_call.specs.declared.call.Kind.{Kind}
use Rattle.mpi_call.specs.declared.call.Op.{Op}
use Rattle.mpi_call.specs.declared.call.Source.{Source}
use Rattle.mpi_call.specs.declared.call.Tag.{Tag}
use Rattle.mpi_call.specs.Calls.{ints_of}
use Rattle.mpi_call.specs.Needs.{needs}
use Rattle.run_model.specs.declared.event.Event.{Event}
use Rattle.run_model.specs.Communicators.{Entered, enter_at, instance_of, members_for_rank}
use Rattle.run_model.specs.Inputs.{gather, is_gathered, push_ints, with_ints}
use Rattle.run_model.specs.Readiness.{is_ready}
use Rattle.run_model.specs.Views.{moment_at, view_of}
use Rattle.run_model.proofs.Views.{option_cases, test_cases}
use Rattle.wait_graph.specs.declared.wait.Wait.{Wait}
use Rattle.wait_graph.specs.Waits.{absent, awaited_by, waits_at}

pushed : (ints : List ℤ) (rest : Result (List (List ℤ)) ℕ) → is_gathered (push_ints ints rest) ≡ is_gathered rest
pushed ints (Ok inputs) = refl
pushed ints (Err missing) = refl

some_length : (x : ℕ) (xs : List ℕ) → (length (x ∷ xs) == 0) ≡ false
some_length x xs = elim (test_cases (length (x ∷ xs) == 0)) [
  | inl t ↦ (let same = eqb-true (length (x ∷ xs)) 0 t in absurd (omega (arith, same)))
  | inr t ↦ t
]

gathered_none : (needed : ℕ → Bool) (find : ℕ → Option Entered) (members : List ℕ) → (length (absent needed find members) == 0) ≡ is_gathered (gather needed find members)
gathered_none needed find [] = refl
gathered_none needed find (m ∷ members) =
    let rest = gathered_none needed find members in
    elim (test_cases (needed m)) [
      | inl t ↦ elim (option_cases (find m)) [
        | inl found ↦ (
            let F : Option Entered → Type 0 = λ o. (is_some (find m) ≡ is_some o) → is_gathered (with_ints m o (gather needed find members)) ≡ is_gathered (gather needed find members) in
            let here : is_gathered (with_ints m (find m) (gather needed find members)) ≡ is_gathered (gather needed find members) =
            subst F (sym found.1) (λ same. pushed (ints_of found.0.call) (gather needed find members)) refl in
            let some : is_some (find m) ≡ true = ap (λ (o : Option Entered). is_some o) found.1 in
            rw (t, some) (rest ∙ sym here))
        | inr none ↦ (
            let missing : is_gathered (with_ints m (find m) (gather needed find members)) ≡ false = ap (λ o. is_gathered (with_ints m o (gather needed find members))) none in
            let absent_here : is_some (find m) ≡ false = ap (λ (o : Option Entered). is_some o) none in
            rw (t, absent_here) (some_length m (absent needed find members) ∙ sym missing))
      ]
      | inr t ↦ rw t (rest ∙ sym (pushed [] (gather needed find members)))
    ]

pub ready_if_none : (n : ℕ) (G : List Event) (me k : ℕ) (call : Call) (comm : ℕ) (kind : Kind) (root : Option ℕ) (op : Option Op) (count : ℕ) (ints : List ℤ) (ranks : List ℕ)
    → call ≡ Enter comm kind root op count ints → ranks ≡ awaited_by n G me k call → (length ranks == 0) ≡ is_ready (moment_at n G me) k (Some call)
ready_if_none n G me k call comm kind root op count ints ranks is same =
    let F : Call → Type 0 = λ c. (length (awaited_by n G me k c) == 0) ≡ is_ready (moment_at n G me) k (Some c) in
    let enter : Call = Enter comm kind root op count ints in
    let base : F enter = gathered_none (needs enter (members_for_rank n (view_of G me) comm) me) (λ m. enter_at n (view_of G m) comm (instance_of (view_of G me) k comm)) (members_for_rank n (view_of G me) comm) in
    ap (λ (l : List ℕ). length l == 0) same ∙ subst F (sym is) base

pub probe_waits : (n : ℕ) (G : List Event) (me : ℕ) (call : Call) (comm : ℕ) (source : Source) (tag : Tag) (wait : Bool) (waits : List Wait) → call ≡ Peek comm source tag wait
    → waits ≡ (record { start = None; call = call; awaited = awaited_by n G me 0 call }) ∷ [] → waits ≡ waits_at n G me call
probe_waits n G me call comm source tag wait waits is same =
    let one : Call → List Wait = λ c. (record { start = None; call = c; awaited = awaited_by n G me 0 c }) ∷ [] in
    let F : Call → Type 0 = λ c. one c ≡ waits_at n G me c in
    same ∙ subst F (sym is) refl
