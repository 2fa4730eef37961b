-- The inputs of a collective whose needed members have entered and agree.
use Rattle.std.proofs.Common.{◌≡◌, ◌<◌, ◌&&◌, ◌==◌, ℕ, zero, suc, ℤ, List, [], ◌∷◌, Option, Some, None, Bool, true, inl, inr, refl, sym, ap, ◌∙◌, subst, length, get_or, arith, Ok, Err, Result}
use Rattle.std.proofs.lemmas.Bool.{and_parts, eqb-true, ltb-true}
use Rattle.mpi_call.specs.declared.call.Call.{Call}
use Rattle.mpi_call.specs.Calls.{comm_of}
use Rattle.mpi_call.specs.Collectives.{AreInputsOf, IsEnterOf, agree, needs}
use Rattle.mpi_call.proofs.MemberLemmas.{is_member_at}
use Rattle.run_model.specs.declared.event.Event.{Event}
use Rattle.run_model.specs.Communicators.{Entered, enter_at, instance_of, members_for_rank}
use Rattle.run_model.specs.Inputs.{inputs_of}
use Rattle.run_model.specs.Lists.{same_ranks}
use Rattle.run_model.specs.Views.{View, view_of}
use Rattle.run_model.proofs.Agreement.{input_length-agree}
use Rattle.run_model.proofs.MemberLists.{below_member}
use Rattle.run_model.proofs.Instances.{gather-at, gather-length}
use Rattle.run_model.proofs.Views.{test_cases}
use Rattle.replay_model.specs.declared.step.Found.{Found}
use Rattle.replay_model.specs.Breaks.{break_enter, break_members, has_members, or_found}
use Rattle.srr_replay.specs.inside.Collectives.{IsCollective}
use Rattle.replay_model.specs.Filling.{absent_of}
use Rattle.srr_replay.proofs.FormLemmas.{IsInForm, in_form}

same_ranks-is : (xs ys : List ℕ) → same_ranks xs ys ≡ true → xs ≡ ys
same_ranks-is [] [] h = refl
same_ranks-is [] (y ∷ ys) h = absurd (cc)
same_ranks-is (x ∷ xs) [] h = absurd (cc)
same_ranks-is (x ∷ xs) (y ∷ ys) h =
    let parts = and_parts (x == y) (same_ranks xs ys) h in
    ap (λ z. z ∷ xs) (eqb-true x y parts.0) ∙ ap (λ zs. y ∷ zs) (same_ranks-is xs ys parts.1)

pub or_none-first : (first rest : Option Found) → or_found first rest ≡ None → first ≡ None
or_none-first None rest h = refl
or_none-first (Some found) rest h = absurd (cc)

pub or_none-rest : (first rest : Option Found) → or_found first rest ≡ None → rest ≡ None
or_none-rest None rest h = h
or_none-rest (Some found) rest h = absurd (cc)

-- an Enter that does not break agrees, on the same members
pub record Agrees (enter : Call) (members : List ℕ) (entered : Entered) : Type 0 where
  pub agrees : agree enter entered.call ≡ true
  pub same : has_members members entered.members ≡ true

unbroken : (enter : Call) (members : List ℕ) (m : ℕ) (entered : Entered) → break_enter enter members m (Some entered) ≡ None → Agrees enter members entered
unbroken enter members m entered h =
    elim (test_cases (agree enter entered.call && has_members members entered.members)) [
      | inl t ↦ (let parts = and_parts (agree enter entered.call) (has_members members entered.members) t in record { agrees = parts.0; same = parts.1 })
      | inr t ↦ (let told = rw t at h in absurd (cc))
    ]

unbroken-at : (enter : Call) (all : List ℕ) (needed : ℕ → Bool) (find : ℕ → Option Entered) (members : List ℕ) (place : ℕ) (entered : Entered) → break_members enter all needed find members ≡ None → place < length members → needed (get_or members place 0) ≡ true → find (get_or members place 0) ≡ Some entered → Agrees enter all entered
unbroken-at enter all needed find [] place entered h below need found = absurd (omega arith)
unbroken-at enter all needed find (m ∷ members) zero entered h below need found =
    let whole = rw need at h in
    let first = or_none-first (break_enter enter all m (find m)) (break_members enter all needed find members) whole in
    unbroken enter all m entered (rw found at first)
unbroken-at enter all needed find (m ∷ members) (suc place) entered h below need found =
    elim (test_cases (needed m)) [
      | inl t ↦ (
          let whole = rw t at h in
          unbroken-at enter all needed find members place entered (or_none-rest (break_enter enter all m (find m)) (break_members enter all needed find members) whole) (omega arith) need found)
      | inr t ↦ (
          let rest = rw t at h in
          unbroken-at enter all needed find members place entered rest (omega arith) need found)
    ]

has_same : (members : List ℕ) (others : Option (List ℕ)) (known : List ℕ) → others ≡ Some known → has_members members others ≡ true → members ≡ known
has_same members (Some others) known is h = (let same : others ≡ known = cc in same_ranks-is members others h ∙ same)
has_same members None known is h = absurd (cc)

absent-none : (gathered : Result (List (List ℤ)) ℕ) → absent_of gathered ≡ None → (inputs : List (List ℤ)) × (gathered ≡ Ok inputs)
absent-none (Ok inputs) h = (inputs, refl)
absent-none (Err m) h = absurd (cc)

-- the gathered inputs are those of the Enter, by the table
pub inputs_are : (n : ℕ) (events : List Event) (rank k : ℕ) (enter : Call) (inputs : List (List ℤ)) → IsCollective n events rank k enter → inputs_of n (view_of events) rank (view_of events rank) k enter ≡ Ok inputs → AreInputsOf enter (members_for_rank n (view_of events rank) (comm_of enter)) inputs rank
inputs_are n events rank k enter inputs is gathered =
    let own : View = view_of events rank in
    let C : ℕ = comm_of enter in
    let M : List ℕ = members_for_rank n own C in
    let find : ℕ → Option Entered = λ m. enter_at n (view_of events m) C (instance_of own k C) in
    let form = in_form n rank own k enter (is.order.ranks rank is.below) is.start is.is in
    record {
      as_many = gather-length (needs enter M rank) find M inputs gathered;
      lengths = λ place below need. (
          let there = gather-at (needs enter M rank) find M inputs place gathered below need in
          let m : ℕ = get_or M place 0 in
          let m_below : m < n = ltb-true m n (below_member n M m form.members.below (is_member_at M place below)) in
          let entered = (is.order.ranks m m_below).entered C (instance_of own k C) there.0 there.1 in
          let agrees = unbroken-at enter M (needs enter M rank) find M place there.0 is.agrees below need there.1 in
          let same : M ≡ entered.members = has_same M there.0.members entered.members entered.known agrees.same in
          let F : List ℕ → Type 0 = λ l. IsEnterOf there.0.call l m in
          let its = subst F (sym same) entered.form in
          ap length there.2 ∙ (its.ints ∙ sym (input_length-agree enter there.0.call M m agrees.agrees)));
    }

-- as its kind wants it, on a communicator of the rank
pub form_of : (n : ℕ) (events : List Event) (rank k : ℕ) (enter : Call) → IsCollective n events rank k enter → IsInForm n rank (view_of events rank) enter
form_of n events rank k enter is = in_form n rank (view_of events rank) k enter (is.order.ranks rank is.below) is.start is.is
