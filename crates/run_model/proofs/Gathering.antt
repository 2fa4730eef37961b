-- The inputs of a collective stay as others go on.
use Rattle.std.proofs.Common.{◌∙◌, ◌∷◌, ◌≡◌, Bool, Err, List, None, Ok, Option, Result, Some, [], inl, inr, refl, sym, ℕ, ℤ}
use Rattle.mpi_call.specs.declared.call.Call.{Call}
use Rattle.mpi_call.specs.Calls.{comm_of, ints_of}
use Rattle.mpi_call.specs.Collectives.{needs}
use Rattle.run_model.specs.Communicators.{Entered, enter_at, instance_of, members_for_rank}
use Rattle.run_model.specs.Inputs.{gather, inputs_of, push_ints, with_ints}
use Rattle.run_model.specs.Views.{View}
use Rattle.run_model.proofs.Prefixes.{Begins}
use Rattle.run_model.proofs.StartLemmas.{Keeps, enter_at-kept}
use Rattle.run_model.proofs.Views.{test_cases}

pub pushed : (ints : List ℤ) (rest : Result (List (List ℤ)) ℕ) (inputs : List (List ℤ)) → push_ints ints rest ≡ Ok inputs
    → (others : List (List ℤ)) × (rest ≡ Ok others) × (ints ∷ others ≡ inputs)
pushed ints (Ok others) inputs h = (others, refl, (let e : Ok (ints ∷ others) ≡ Ok inputs = h in cc))
pushed ints (Err m) inputs h = absurd (cc)

pub with_some : (m : ℕ) (o : Option Entered) (rest : Result (List (List ℤ)) ℕ) (inputs : List (List ℤ))
    → with_ints m o rest ≡ Ok inputs
    → (entered : Entered) × (o ≡ Some entered) × (push_ints (ints_of entered.call) rest ≡ Ok inputs)
with_some m None rest inputs h = absurd (cc)
with_some m (Some entered) rest inputs h = (entered, refl, h)

-- as long as none is missing, the same Enters are found
pub gather-same : (needed : ℕ → Bool) (find later : ℕ → Option Entered) (members : List ℕ) (inputs : List (List ℤ))
    → ((m : ℕ) → Keeps (find m) (later m)) → gather needed find members ≡ Ok inputs
    → gather needed later members ≡ gather needed find members
gather-same needed find later [] inputs keeps h = refl
gather-same needed find later (m ∷ members) inputs keeps h =
    elim (test_cases (needed m)) [
      | inl t ↦
          let some = with_some m (find m) (gather needed find members) inputs (rw t at h) in
          let rest = pushed (ints_of some.0.call) (gather needed find members) inputs some.2 in
          let same = gather-same needed find later members rest.0 keeps rest.1 in
          let found : later m ≡ find m = (keeps m).kept some.0 some.1 ∙ sym some.1 in
          rw (t, found, same)
      | inr t ↦
          let rest = pushed [] (gather needed find members) inputs (rw t at h) in
          rw (t, gather-same needed find later members rest.0 keeps rest.1)
    ]

-- what was gathered is gathered over longer views too
pub inputs-kept : (n : ℕ) (V W : ℕ → View) (own : View) (me k : ℕ) (enter : Call) (inputs : List (List ℤ)) → Begins V W
    → inputs_of n V me own k enter ≡ Ok inputs → inputs_of n W me own k enter ≡ Ok inputs
inputs-kept n V W own me k enter inputs begins h =
    gather-same (needs enter (members_for_rank n own (comm_of enter)) me) (λ m. enter_at n (V m) (comm_of enter) (instance_of own k (comm_of enter))) (λ m. enter_at n (W m) (comm_of enter) (instance_of own k (comm_of enter))) (members_for_rank n own (comm_of enter)) inputs
    (λ m. enter_at-kept n (V m) (W m) (comm_of enter) (instance_of own k (comm_of enter)) (begins m)) h
    ∙ h
