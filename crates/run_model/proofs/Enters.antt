-- Enters, their members, and what stays as a rank goes on.
use Rattle.std.proofs.Common.{◌++◌, ◌+◌, ◌<◌, ◌==◌, ◌∙◌, ◌∷◌, ◌≡◌, ◌≤◌, ◌⊎◌, Bool, List, None, Option, Some, [], ap, append-nil, arith, false, inl, inr, length, refl, slice_get, subst, suc, sym, take, true, zero, ℕ}
use Rattle.std.proofs.lemmas.List.{take-append-le}
use Rattle.mpi_call.specs.declared.call.Call.{Call}
use Rattle.mpi_call.specs.declared.reply.Reply.{Reply}
use Rattle.run_model.specs.Communicators.{Entered, count_on, enter_at, entered_from, instance_of, is_on, known_after, known_first, known_in, learned}
use Rattle.run_model.specs.Inputs.{gather}
use Rattle.run_model.specs.Lists.{IsPrefixOf, world}
use Rattle.run_model.specs.Views.{View, is_start, start_at, starts_of}
use Rattle.run_model.proofs.CommunicatorLaws.{known_after-some}
use Rattle.run_model.proofs.StartLemmas.{slice_get-below, slice_get-last, slice_get-push, starts_of-append}
use Rattle.run_model.proofs.Views.{test_cases}

-- Enters, their members, and what stays as a rank goes on.
pub known_after-append : (comm : ℕ) (known : Option (List ℕ)) (xs ys : View)
    → known_after comm known (xs ++ ys) ≡ known_after comm (known_after comm known xs) ys
known_after-append comm known [] ys = refl
known_after-append comm known ((call, reply) ∷ xs) ys = known_after-append comm (learned comm known reply) xs ys

-- members once known stay known
pub known_in-kept : (n : ℕ) (xs ys : View) (comm : ℕ) (members : List ℕ) → IsPrefixOf xs ys → known_in n xs comm ≡ Some members
    → known_in n ys comm ≡ Some members
known_in-kept n xs ys comm members prefix h =
    rw (← prefix.1, known_after-append comm (known_first n comm) xs prefix.0, h) (known_after-some comm members prefix.0)

pub entered_from-split : (comm number : ℕ) (known : Option (List ℕ)) (xs ys : View)
    → entered_from comm number known (xs ++ ys) ≡ entered_from comm number known xs ++ entered_from comm (number + length (starts_of xs)) (known_after comm known xs) ys
entered_from-split comm number known [] ys = (let e : number + 0 ≡ number = omega arith in rw e)
entered_from-split comm number known ((call, reply) ∷ xs) ys =
    elim (test_cases (is_start (call, reply))) [
      | inl h ↦ elim (test_cases (is_on comm call)) [
        | inl on ↦ (
            let e : suc number + length (starts_of xs) ≡ number + suc (length (starts_of xs)) = omega arith in
            let rest = entered_from-split comm (suc number) (learned comm known reply) xs ys in
            rw (h, on, rest, e))
        | inr off ↦ (
            let e : suc number + length (starts_of xs) ≡ number + suc (length (starts_of xs)) = omega arith in
            let rest = entered_from-split comm (suc number) (learned comm known reply) xs ys in
            rw (h, off, rest, e))
      ]
      | inr h ↦ rw (h, entered_from-split comm number (learned comm known reply) xs ys)
    ]

pub entered_from-count : (comm number : ℕ) (known : Option (List ℕ)) (view : View)
    → length (entered_from comm number known view) ≡ count_on comm (starts_of view)
entered_from-count comm number known [] = refl
entered_from-count comm number known ((call, reply) ∷ view) =
    elim (test_cases (is_start (call, reply))) [
      | inl h ↦ elim (test_cases (is_on comm call)) [
        | inl on ↦ (let rest = entered_from-count comm (suc number) (learned comm known reply) view in rw (h, on) (ap suc rest))
        | inr off ↦ rw (h, off) (entered_from-count comm (suc number) (learned comm known reply) view)
      ]
      | inr h ↦ rw h (entered_from-count comm number (learned comm known reply) view)
    ]

-- a rank's own Enter stands at its instance
pub own_at : (comm number : ℕ) (known : Option (List ℕ)) (view : View) (k : ℕ) (enter : Call)
    → slice_get (starts_of view) k ≡ Some enter → is_on comm enter ≡ true
    → (entered : Entered) × (slice_get (entered_from comm number known view) (count_on comm (take k (starts_of view))) ≡ Some entered) × (entered.call ≡ enter)
own_at comm number known [] k enter h on = absurd (cc)
own_at comm number known ((call, reply) ∷ view) zero enter h on =
    elim (test_cases (is_start (call, reply))) [
      | inl t ↦ (
          let e : Some call ≡ Some enter = rw t at h in
          let same : call ≡ enter = cc in
          let on_call : is_on comm call ≡ true = ap (is_on comm) same ∙ on in
          let entered : Entered = record { number = number; call = call; members = known } in
          (entered, rw (t, on_call), same))
      | inr t ↦ (let later = own_at comm number (learned comm known reply) view zero enter (rw t at h) on in (later.0, rw t later.1, later.2))
    ]
own_at comm number known ((call, reply) ∷ view) (suc k) enter h on =
    elim (test_cases (is_start (call, reply))) [
      | inl t ↦ (
          let later = own_at comm (suc number) (learned comm known reply) view k enter (rw t at h) on in
          elim (test_cases (is_on comm call)) [
            | inl u ↦ (later.0, rw (t, u) later.1, later.2)
            | inr u ↦ (later.0, rw (t, u) later.1, later.2)
          ])
      | inr t ↦ (let later = own_at comm number (learned comm known reply) view (suc k) enter (rw t at h) on in (later.0, rw t later.1, later.2))
    ]

-- an Enter's members are what was known, and stay so where something was known
pub members_kept : (comm number : ℕ) (known : Option (List ℕ)) (view : View) (instance : ℕ) (entered : Entered) (members : List ℕ)
    → slice_get (entered_from comm number known view) instance ≡ Some entered → entered.members ≡ Some members
    → known_after comm known view ≡ Some members
members_kept comm number known [] instance entered members h e = absurd (cc)
members_kept comm number known ((call, reply) ∷ view) zero entered members h e =
    elim (test_cases (is_start (call, reply))) [
      | inl t ↦ elim (test_cases (is_on comm call)) [
        | inl u ↦ (
            let first : Entered = record { number = number; call = call; members = known } in
            let some : Some first ≡ Some entered = rw (t, u) at h in
            let same : first ≡ entered = cc in
            let of : known ≡ Some members = ap (λ (x : Entered). x.members) same ∙ e in
            let F : Option (List ℕ) → Type 0 = λ o. known_after comm (learned comm o reply) view ≡ Some members in
            subst F (sym of) (known_after-some comm members view))
        | inr u ↦ members_kept comm (suc number) (learned comm known reply) view zero entered members (rw (t, u) at h) e
      ]
      | inr t ↦ members_kept comm number (learned comm known reply) view zero entered members (rw t at h) e
    ]
members_kept comm number known ((call, reply) ∷ view) (suc instance) entered members h e =
    elim (test_cases (is_start (call, reply))) [
      | inl t ↦ elim (test_cases (is_on comm call)) [
        | inl u ↦ members_kept comm (suc number) (learned comm known reply) view instance entered members (rw (t, u) at h) e
        | inr u ↦ members_kept comm (suc number) (learned comm known reply) view (suc instance) entered members (rw (t, u) at h) e
      ]
      | inr t ↦ members_kept comm number (learned comm known reply) view (suc instance) entered members (rw t at h) e
    ]

-- Runs keep their instances apart.
-- the instance of a start stays
pub instance_of-kept : (xs ys : View) (k comm : ℕ) (call : Call) → IsPrefixOf xs ys → start_at xs k ≡ Some call
    → instance_of ys k comm ≡ instance_of xs k comm
instance_of-kept xs ys k comm call prefix h =
    let below : k < length (starts_of xs) = slice_get-below (starts_of xs) k call h in
    let low : k ≤ length (starts_of xs) = omega arith in
    let front : take k (starts_of xs ++ starts_of prefix.0) ≡ take k (starts_of xs) = take-append-le k (starts_of xs) (starts_of prefix.0) low in
    rw (← prefix.1, starts_of-append, front)

-- an Enter after one more call of its rank
pub record NewEnter (n : ℕ) (view : View) (call : Call) (reply : Reply) (comm instance : ℕ) (entered : Entered) : Type 0 where
  pub start : is_start (call, reply) ≡ true
  pub on : is_on comm call ≡ true
  pub at : instance ≡ count_on comm (starts_of view)
  pub call_is : entered.call ≡ call
  pub members_are : entered.members ≡ known_in n view comm

pub enter_back : (n : ℕ) (view : View) (call : Call) (reply : Reply) (comm instance : ℕ) (entered : Entered)
    → enter_at n (view ++ (call, reply) ∷ []) comm instance ≡ Some entered
    → (enter_at n view comm instance ≡ Some entered) ⊎ NewEnter n view call reply comm instance entered
enter_back n view call reply comm instance entered h =
    let split = entered_from-split comm 0 (known_first n comm) view ((call, reply) ∷ []) in
    let at : slice_get (entered_from comm 0 (known_first n comm) view ++ entered_from comm (0 + length (starts_of view)) (known_in n view comm) ((call, reply) ∷ [])) instance ≡ Some entered = rw split at h in
    elim (test_cases (is_start (call, reply))) [
      | inl t ↦ elim (test_cases (is_on comm call)) [
        | inl u ↦ (
            let last : Entered = record { number = 0 + length (starts_of view); call = call; members = known_in n view comm } in
            let pushed : slice_get (entered_from comm 0 (known_first n comm) view ++ last ∷ []) instance ≡ Some entered = rw (t, u) at at in
            elim (slice_get-push (entered_from comm 0 (known_first n comm) view) last instance entered pushed) [
              | inr was ↦ inl was
              | inl e ↦ (
                  let here : slice_get (entered_from comm 0 (known_first n comm) view ++ last ∷ []) (length (entered_from comm 0 (known_first n comm) view)) ≡ Some entered = rw e at pushed in
                  let some : Some last ≡ Some entered = sym (slice_get-last (entered_from comm 0 (known_first n comm) view) last) ∙ here in
                  let same : last ≡ entered = cc in
                  inr (record { start = t; on = u; at = e ∙ entered_from-count comm 0 (known_first n comm) view; call_is = ap (λ (x : Entered). x.call) (sym same); members_are = ap (λ (x : Entered). x.members) (sym same) }))
            ])
        | inr u ↦ inl (rw (t, u, append-nil) at at)
      ]
      | inr t ↦ inl (rw (t, append-nil) at at)
    ]

pub gather-needed : (needed other : ℕ → Bool) (find : ℕ → Option Entered) (members : List ℕ) → ((m : ℕ) → needed m ≡ other m)
    → gather needed find members ≡ gather other find members
gather-needed needed other find [] same = refl
gather-needed needed other find (m ∷ members) same = rw (same m, gather-needed needed other find members same)

pub not_world : (n comm : ℕ) (view : View) → known_in n view comm ≡ None → (comm == 0) ≡ false
not_world n comm view h =
    elim (test_cases (comm == 0)) [
      | inl t ↦ (
          let no : known_after comm (Some (world n 0)) view ≡ None = rw t at h in
          let some : Some (world n 0) ≡ None = sym (known_after-some comm (world n 0) view) ∙ no in
          absurd (cc))
      | inr t ↦ t
    ]

pub take_all : {A : Type 0} (xs : List A) → take (length xs) xs ≡ xs
take_all [] = refl
take_all (x ∷ xs) = ap (λ l. x ∷ l) (take_all xs)
