-- Runs keep the instances of their collectives apart: the Enters of one agree, and the members of a communicator are the
-- same for all who know them.
use Rattle.std.proofs.Common.{◌++◌, ◌<◌, ◌==◌, ◌∙◌, ◌∷◌, ◌≡◌, ◌⊎◌, Bool, List, None, Ok, Option, Some, [], ap, append_assoc, arith, false, get_or, inl, inr, length, refl, subst, suc, sym, true, zero, ℕ, ℤ}
use Rattle.std.proofs.lemmas.Bool.{eq-eqb, eqb-true}
use Rattle.mpi_call.specs.declared.call.Call.{Call}
use Rattle.mpi_call.specs.declared.call.Call.TheVariants.{Enter}
use Rattle.mpi_call.specs.Calls.{comm_of, ints_of, is_enter, makes}
use Rattle.mpi_call.specs.Collectives.{AreInputsOf, IsEnterOf, agree, is_member, is_uncoloured, members_made, needs, place_of}
use Rattle.mpi_call.specs.Results.{input_of}
use Rattle.mpi_call.proofs.MadeLemmas.{members_made-same}
use Rattle.mpi_call.proofs.MemberLemmas.{at_place_of, place_of-within}
use Rattle.mpi_call.proofs.NeedsLemmas.{agree-refl, agree-sym, needs-coloured, needs-me}
use Rattle.run_model.specs.declared.event.Event.{Event}
use Rattle.run_model.specs.Communicators.{Entered, count_on, enter_at, instance_of, is_on, known_first, known_in, members_for_rank}
use Rattle.run_model.specs.Inputs.{gather, inputs_of}
use Rattle.run_model.specs.Pairs.{Name}
use Rattle.mpi_call.specs.Lists.{IsIn}
use Rattle.run_model.specs.Run.{AreNumbered, MadeTwo, SameOrigin, entrance_of, numbers_in_view}
use Rattle.run_model.specs.Views.{View, is_start, start_at, starts_of, view_of}
use Rattle.run_model.proofs.Agreement.{input_length-agree}
use Rattle.run_model.proofs.Enters.{NewEnter, enter_back, gather-needed, instance_of-kept, known_in-kept, members_kept, not_world, own_at}
use Rattle.run_model.proofs.Gathering.{inputs-kept, pushed, with_some}
use Rattle.run_model.specs.Forms.{AreMembers}
use Rattle.run_model.proofs.MemberLists.{AreMembers-made}
use Rattle.run_model.proofs.Prefixes.{Begins, Begins-more}
use Rattle.run_model.proofs.StartLemmas.{start_at-kept}
use Rattle.run_model.proofs.Views.{option_cases, test_cases, view_of-append, view_of-mine, view_of-other}

-- an Enter of rank r: its members when it entered, for which it has its form
pub record Joins (r : ℕ) (one : Entered) : Type 0 where
  pub members : List ℕ
  pub known : one.members ≡ Some members
  pub form : IsEnterOf one.call members r

pub record SameInstances (n : ℕ) (V : ℕ → View) : Type 0 where
  pub agrees : (r s comm instance : ℕ) (one two : Entered) → enter_at n (V r) comm instance ≡ Some one → enter_at n (V s) comm instance ≡ Some two → agree one.call two.call ≡ true
  pub joins : (r comm instance : ℕ) (one : Entered) → enter_at n (V r) comm instance ≡ Some one → Joins r one
  pub members : (r s comm : ℕ) (one two : List ℕ) → known_in n (V r) comm ≡ Some one → known_in n (V s) comm ≡ Some two → one ≡ two
  pub fine : (r comm : ℕ) (members : List ℕ) → r < n → known_in n (V r) comm ≡ Some members → AreMembers n r members

pub on_own : (call : Call) → is_enter call ≡ true → is_on (comm_of call) call ≡ true
on_own (Enter comm kind root op count ints) h = eq-eqb comm comm refl
on_own call h = absurd (cc)

-- a rank's own Enter at its instance, and its members
pub record OwnEnter (n : ℕ) (V : ℕ → View) (r k : ℕ) (enter : Call) : Type 0 where
  pub entered : Entered
  pub at : enter_at n (V r) (comm_of enter) (instance_of (V r) k (comm_of enter)) ≡ Some entered
  pub call_is : entered.call ≡ enter
  pub members : List ℕ
  pub known : known_in n (V r) (comm_of enter) ≡ Some members
  pub all : members_for_rank n (V r) (comm_of enter) ≡ members
  pub form : IsEnterOf enter members r

pub own_enter : (n : ℕ) (V : ℕ → View) (r k : ℕ) (enter : Call) → SameInstances n V → start_at (V r) k ≡ Some enter
    → is_enter enter ≡ true → OwnEnter n V r k enter
own_enter n V r k enter same at is =
    let C : ℕ = comm_of enter in
    let mine = own_at C 0 (known_first n C) (V r) k enter at (on_own enter is) in
    let join = same.joins r C (instance_of (V r) k C) mine.0 mine.1 in
    let known : known_in n (V r) C ≡ Some join.members = members_kept C 0 (known_first n C) (V r) (instance_of (V r) k C) mine.0 join.members mine.1 join.known in
    let F : Call → Type 0 = λ c. IsEnterOf c join.members r in
    record { entered = mine.0; at = mine.1; call_is = mine.2; members = join.members; known = known; all = rw known; form = subst F mine.2 join.form }

-- another rank's Enter of that instance
pub record OtherEnter (m : ℕ) (enter : Call) (members : List ℕ) (entered : Entered) : Type 0 where
  pub agrees : agree enter entered.call ≡ true
  pub known : entered.members ≡ Some members
  pub form : IsEnterOf entered.call members m

pub other_enter : (n : ℕ) (V : ℕ → View) (r k m : ℕ) (enter : Call) (entered : Entered) → SameInstances n V
    → (own : OwnEnter n V r k enter) → enter_at n (V m) (comm_of enter) (instance_of (V r) k (comm_of enter)) ≡ Some entered
    → OtherEnter m enter own.members entered
other_enter n V r k m enter entered same own found =
    let C : ℕ = comm_of enter in
    let I : ℕ = instance_of (V r) k C in
    let agreed = same.agrees r m C I own.entered entered own.at found in
    let join = same.joins m C I entered found in
    let known = members_kept C 0 (known_first n C) (V m) I entered join.members found join.known in
    let equal : join.members ≡ own.members = same.members m r C join.members own.members known own.known in
    let F : List ℕ → Type 0 = λ l. IsEnterOf entered.call l m in
    record { agrees = rw own.call_is at agreed; known = join.known ∙ ap (λ x. Some x) equal; form = subst F equal join.form }

-- gathered inputs: one for each member, and what each needed member entered
pub gather-length : (needed : ℕ → Bool) (find : ℕ → Option Entered) (members : List ℕ) (inputs : List (List ℤ))
    → gather needed find members ≡ Ok inputs → length inputs ≡ length members
gather-length needed find [] inputs h = (let e : [] ≡ inputs = cc in ap length (sym e))
gather-length needed find (m ∷ members) inputs h =
    elim (test_cases (needed m)) [
      | inl t ↦ (
          let some = with_some m (find m) (gather needed find members) inputs (rw t at h) in
          let rest = pushed (ints_of some.0.call) (gather needed find members) inputs some.2 in
          ap length (sym rest.2) ∙ ap suc (gather-length needed find members rest.0 rest.1))
      | inr t ↦ (
          let rest = pushed [] (gather needed find members) inputs (rw t at h) in
          ap length (sym rest.2) ∙ ap suc (gather-length needed find members rest.0 rest.1))
    ]

pub gather-at : (needed : ℕ → Bool) (find : ℕ → Option Entered) (members : List ℕ) (inputs : List (List ℤ)) (place : ℕ)
    → gather needed find members ≡ Ok inputs → place < length members → needed (get_or members place 0) ≡ true
    → (entered : Entered) × (find (get_or members place 0) ≡ Some entered) × (get_or inputs place [] ≡ ints_of entered.call)
gather-at needed find [] inputs place h below need = absurd (omega arith)
gather-at needed find (m ∷ members) inputs zero h below need =
    let some = with_some m (find m) (gather needed find members) inputs (rw need at h) in
    let rest = pushed (ints_of some.0.call) (gather needed find members) inputs some.2 in
    (some.0, some.1, ap (λ l. get_or l 0 []) (sym rest.2))
gather-at needed find (m ∷ members) inputs (suc place) h below need =
    elim (test_cases (needed m)) [
      | inl t ↦ (
          let some = with_some m (find m) (gather needed find members) inputs (rw t at h) in
          let rest = pushed (ints_of some.0.call) (gather needed find members) inputs some.2 in
          let later = gather-at needed find members rest.0 place rest.1 (omega arith) need in
          (later.0, later.1, ap (λ l. get_or l (suc place) []) (sym rest.2) ∙ later.2))
      | inr t ↦ (
          let rest = pushed [] (gather needed find members) inputs (rw t at h) in
          let later = gather-at needed find members rest.0 place rest.1 (omega arith) need in
          (later.0, later.1, ap (λ l. get_or l (suc place) []) (sym rest.2) ∙ later.2))
    ]

-- they are inputs of the Enter, by the table
pub inputs_fit : (n : ℕ) (V : ℕ → View) (r k : ℕ) (enter : Call) (inputs : List (List ℤ)) → SameInstances n V
    → start_at (V r) k ≡ Some enter → is_enter enter ≡ true → inputs_of n V r (V r) k enter ≡ Ok inputs
    → AreInputsOf enter (members_for_rank n (V r) (comm_of enter)) inputs r
inputs_fit n V r k enter inputs same at is gathered =
    let C : ℕ = comm_of enter in
    let I : ℕ = instance_of (V r) k C in
    let own = own_enter n V r k enter same at is in
    let M : List ℕ = own.members in
    let find : ℕ → Option Entered = λ m. enter_at n (V m) C I in
    let g : gather (needs enter M r) find M ≡ Ok inputs = rw own.all at gathered in
    let fit : AreInputsOf enter M inputs r = record {
      as_many = gather-length (needs enter M r) find M inputs g;
      lengths = λ place below need. (
          let there = gather-at (needs enter M r) find M inputs place g below need in
          let m : ℕ = get_or M place 0 in
          let other = other_enter n V r k m enter there.0 same own there.1 in
          ap length there.2 ∙ (other.form.ints ∙ sym (input_length-agree enter there.0.call M m other.agrees)));
    } in
    let F : List ℕ → Type 0 = λ l. AreInputsOf enter l inputs r in
    subst F (sym own.all) fit

-- what the rank itself entered is among them, where it is needed
pub input_own : (n : ℕ) (V : ℕ → View) (r k : ℕ) (enter : Call) (inputs : List (List ℤ)) → SameInstances n V
    → start_at (V r) k ≡ Some enter → is_enter enter ≡ true → inputs_of n V r (V r) k enter ≡ Ok inputs
    → is_member (members_for_rank n (V r) (comm_of enter)) r ≡ true
    → input_of (members_for_rank n (V r) (comm_of enter)) inputs r ≡ ints_of enter
input_own n V r k enter inputs same at is gathered member =
    let C : ℕ = comm_of enter in
    let I : ℕ = instance_of (V r) k C in
    let own = own_enter n V r k enter same at is in
    let M : List ℕ = members_for_rank n (V r) C in
    let find : ℕ → Option Entered = λ m. enter_at n (V m) C I in
    let place : ℕ = place_of M r in
    let here : get_or M place 0 ≡ r = at_place_of M r member in
    let need : needs enter M r (get_or M place 0) ≡ true = ap (needs enter M r) here ∙ needs-me enter M r is in
    let there = gather-at (needs enter M r) find M inputs place gathered (place_of-within M r member) need in
    let found : enter_at n (V r) C I ≡ Some there.0 = sym (ap find here) ∙ there.1 in
    let some : Some own.entered ≡ Some there.0 = sym own.at ∙ found in
    let e : own.entered ≡ there.0 = cc in
    there.2 ∙ (ap (λ (x : Entered). ints_of x.call) (sym e) ∙ ap ints_of own.call_is)

-- where the members of a communicator come from
pub record Provenance (n : ℕ) (V : ℕ → View) (r comm : ℕ) (members : List ℕ) : Type 0 where
  pub k : ℕ
  pub enter : Call
  pub inputs : List (List ℤ)
  pub at : start_at (V r) k ≡ Some enter
  pub is : is_enter enter ≡ true
  pub makes_is : makes enter ≡ true
  pub coloured : is_uncoloured enter ≡ false
  pub gathered : inputs_of n V r (V r) k enter ≡ Ok inputs
  pub given : members ≡ members_made enter (members_for_rank n (V r) (comm_of enter)) inputs r

-- two of one origin have the same members
same_made : (n : ℕ) (V : ℕ → View) (r s comm : ℕ) (one two : List ℕ) (p : Provenance n V r comm one) (q : Provenance n V s comm two)
    → SameInstances n V → SameOrigin V (entrance_of r p.k p.enter) (entrance_of s q.k q.enter) → one ≡ two
same_made n V r s comm one two p q same origin =
    let C : ℕ = comm_of q.enter in
    let I : ℕ = instance_of (V s) q.k C in
    let comm_is : comm_of p.enter ≡ C = origin.comm in
    let mine = own_enter n V r p.k p.enter same p.at p.is in
    let theirs = own_enter n V s q.k q.enter same q.at q.is in
    let instances : instance_of (V r) p.k C ≡ I = rw comm_is at origin.instance in
    let mine_at : enter_at n (V r) C I ≡ Some mine.entered = rw (comm_is, instances) at mine.at in
    let agreed : agree p.enter q.enter ≡ true = rw (mine.call_is, theirs.call_is) at (same.agrees r s C I mine.entered theirs.entered mine_at theirs.at) in
    let known_mine : known_in n (V r) C ≡ Some mine.members = rw comm_is at mine.known in
    let M : List ℕ = theirs.members in
    let equal : mine.members ≡ M = same.members r s C mine.members M known_mine theirs.known in
    let m_r : members_for_rank n (V r) C ≡ M = rw known_mine equal in
    let m_s : members_for_rank n (V s) C ≡ M = theirs.all in
    let find : ℕ → Option Entered = λ m. enter_at n (V m) C I in
    let g_p : gather (needs p.enter M r) find M ≡ Ok p.inputs = rw (comm_is, m_r, instances) at p.gathered in
    let g_q : gather (needs q.enter M s) find M ≡ Ok q.inputs = rw m_s at q.gathered in
    let both = gather-needed (needs p.enter M r) (needs q.enter M s) find M (λ m. needs-coloured p.enter M r m p.makes_is p.coloured ∙ sym (needs-coloured q.enter M s m q.makes_is q.coloured)) in
    let oks : Ok p.inputs ≡ Ok q.inputs = sym g_p ∙ (both ∙ g_q) in
    let inputs : p.inputs ≡ q.inputs = cc in
    let g1 : one ≡ members_made p.enter M p.inputs r = rw (comm_is, m_r) at p.given in
    let g2 : two ≡ members_made q.enter M q.inputs s = rw m_s at q.given in
    g1 ∙ (ap (λ x. members_made p.enter M x r) inputs ∙ (members_made-same p.enter q.enter M q.inputs r s agreed origin.colour ∙ sym g2))

-- a communicator's new members are such as it can have
fine_made : (n : ℕ) (V : ℕ → View) (r comm : ℕ) (members : List ℕ) → SameInstances n V → r < n → Provenance n V r comm members
    → AreMembers n r members
fine_made n V r comm members same below p =
    let own = own_enter n V r p.k p.enter same p.at p.is in
    let fine = same.fine r (comm_of p.enter) own.members below own.known in
    let M : List ℕ = members_for_rank n (V r) (comm_of p.enter) in
    let F : List ℕ → Type 0 = λ l. AreMembers n r l in
    let of_old : AreMembers n r M = subst F (sym own.all) fine in
    let input = input_own n V r p.k p.enter p.inputs same p.at p.is p.gathered of_old.has_me in
    subst F (sym p.given) (AreMembers-made n r p.enter M p.inputs p.makes_is p.coloured of_old input)

-- ..and are numbered in these views
pub record Sourced (n : ℕ) (V W : ℕ → View) (r comm : ℕ) (members : List ℕ) : Type 0 where
  pub from : Provenance n V r comm members
  pub number : IsIn (comm, from.k) (numbers_in_view (W r))

pub IsIn-front : (a : Name) (xs ys : List Name) → IsIn a xs → IsIn a (xs ++ ys)
IsIn-front a [] ys inside = absurd inside
IsIn-front a (x ∷ xs) ys inside = elim inside [ inl e ↦ inl e | inr later ↦ inr (IsIn-front a xs ys later) ]

pub numbers_of-append : (xs ys : View) → numbers_in_view (xs ++ ys) ≡ numbers_in_view xs ++ numbers_in_view ys
numbers_of-append [] ys = refl
numbers_of-append ((call, reply) ∷ xs) ys = rw (numbers_of-append xs ys, append_assoc)

provenance_kept : (n : ℕ) (V W : ℕ → View) (r comm : ℕ) (members : List ℕ) → Begins V W → SameInstances n V
    → Provenance n V r comm members → Provenance n W r comm members
provenance_kept n V W r comm members begins same p =
    let C : ℕ = comm_of p.enter in
    let own = own_enter n V r p.k p.enter same p.at p.is in
    let k_w : known_in n (W r) C ≡ Some own.members = known_in-kept n (V r) (W r) C own.members (begins r) own.known in
    let m_w : members_for_rank n (W r) C ≡ own.members = rw k_w in
    let all : members_for_rank n (W r) C ≡ members_for_rank n (V r) C = m_w ∙ sym own.all in
    let instance = instance_of-kept (V r) (W r) p.k C p.enter (begins r) p.at in
    let gathered = inputs-kept n V W (V r) r p.k p.enter p.inputs begins p.gathered in
    record {
      k = p.k;
      enter = p.enter;
      inputs = p.inputs;
      at = (start_at-kept (V r) (W r) p.k (begins r)).kept p.enter p.at;
      is = p.is;
      makes_is = p.makes_is;
      coloured = p.coloured;
      gathered = rw (all, instance) gathered;
      given = rw all p.given;
    }

-- an Enter that a rank makes: its communicator's members, for which it has its form
pub record Enters (n : ℕ) (view : View) (r comm : ℕ) (call : Call) : Type 0 where
  pub members : List ℕ
  pub known : known_in n view comm ≡ Some members
  pub form : IsEnterOf call members r

enter_on : (comm : ℕ) (call : Call) → is_on comm call ≡ true → is_enter call ≡ true
enter_on comm (Enter c kind root op count ints) h = refl
enter_on comm call h = absurd (cc)

-- what an event does to instances
pub record KeepsInstances (n : ℕ) (before : List Event) (event : Event) : Type 0 where
  pub enters : (comm : ℕ) → is_start (event.call, event.reply) ≡ true → is_on comm event.call ≡ true → Enters n (view_of before event.rank) event.rank comm event.call
  pub agreed : (comm m : ℕ) (entered : Entered) → is_start (event.call, event.reply) ≡ true → is_on comm event.call ≡ true → enter_at n (view_of before m) comm (count_on comm (starts_of (view_of before event.rank))) ≡ Some entered → agree event.call entered.call ≡ true
  pub source : (comm : ℕ) (members : List ℕ) → known_in n (view_of before event.rank) comm ≡ None → known_in n (view_of (before ++ event ∷ []) event.rank) comm ≡ Some members → Sourced n (view_of before) (view_of (before ++ event ∷ [])) event.rank comm members
  pub numbered : AreNumbered (view_of (before ++ event ∷ []))

pub record Instances (n : ℕ) (V : ℕ → View) : Type 0 where
  pub same : SameInstances n V
  pub sources : (r comm : ℕ) (members : List ℕ) → known_in n (V r) comm ≡ Some members → (comm == 0) ≡ false → Sourced n V V r comm members

enter_cases : (n : ℕ) (before : List Event) (event : Event) (r comm instance : ℕ) (entered : Entered)
    → enter_at n (view_of (before ++ event ∷ []) r) comm instance ≡ Some entered
    → (enter_at n (view_of before r) comm instance ≡ Some entered) ⊎ ((event.rank ≡ r) × NewEnter n (view_of before event.rank) event.call event.reply comm instance entered)
enter_cases n before event r comm instance entered h =
    elim (test_cases (event.rank == r)) [
      | inl t ↦ (
          let mine : event.rank ≡ r = eqb-true event.rank r t in
          let F : ℕ → Type 0 = λ x. NewEnter n (view_of before x) event.call event.reply comm instance entered in
          elim (enter_back n (view_of before r) event.call event.reply comm instance entered (rw (view_of-mine before event r mine) at h)) [
            | inl was ↦ inl was
            | inr new ↦ inr (mine, subst F (sym mine) new)
          ])
      | inr t ↦ inl (rw (view_of-other before event r t) at h)
    ]

known_cases : (n : ℕ) (before : List Event) (event : Event) (r comm : ℕ) (members : List ℕ)
    → known_in n (view_of (before ++ event ∷ []) r) comm ≡ Some members
    → (known_in n (view_of before r) comm ≡ Some members) ⊎ ((r ≡ event.rank) × (known_in n (view_of before event.rank) comm ≡ None))
known_cases n before event r comm members h =
    elim (test_cases (event.rank == r)) [
      | inl t ↦ (
          let mine : event.rank ≡ r = eqb-true event.rank r t in
          let F : ℕ → Type 0 = λ x. known_in n (view_of before x) comm ≡ None in
          elim (option_cases (known_in n (view_of before r) comm)) [
            | inl some ↦ (
                let later = known_in-kept n (view_of before r) (view_of (before ++ event ∷ []) r) comm some.0 (Begins-more before (event ∷ []) r) some.1 in
                let e : Some some.0 ≡ Some members = sym later ∙ h in
                inl (some.1 ∙ e))
            | inr none ↦ inr (sym mine, subst F (sym mine) none)
          ])
      | inr t ↦ inl (rw (view_of-other before event r t) at h)
    ]

-- what a new communicator's members are, they are for all who have it
new_members : (n : ℕ) (before : List Event) (event : Event) (s comm : ℕ) (one two : List ℕ) → Instances n (view_of before)
    → KeepsInstances n before event → known_in n (view_of before event.rank) comm ≡ None
    → known_in n (view_of (before ++ event ∷ []) event.rank) comm ≡ Some one → known_in n (view_of before s) comm ≡ Some two
    → one ≡ two
new_members n before event s comm one two is keeps none new old =
    let V : ℕ → View = view_of before in
    let W : ℕ → View = view_of (before ++ event ∷ []) in
    let begins : Begins V W = Begins-more before (event ∷ []) in
    let real = not_world n comm (V event.rank) none in
    let p = keeps.source comm one none new in
    let q = is.sources s comm two old real in
    let in_w : IsIn (comm, q.from.k) (numbers_in_view (W s)) = rw (view_of-append before (event ∷ []) s, numbers_of-append (view_of before s) (view_of (event ∷ []) s)) (IsIn-front (comm, q.from.k) (numbers_in_view (V s)) (numbers_in_view (view_of (event ∷ []) s)) q.number) in
    let at_p = (start_at-kept (V event.rank) (W event.rank) p.from.k (begins event.rank)).kept p.from.enter p.from.at in
    let at_q = (start_at-kept (V s) (W s) q.from.k (begins s)).kept q.from.enter q.from.at in
    let two_made : MadeTwo W (entrance_of event.rank p.from.k p.from.enter) comm (entrance_of s q.from.k q.from.enter) comm = record { first = p.number; second = in_w; first_new = real; second_new = real; first_enter = at_p; second_enter = at_q } in
    let origin = keeps.numbered.origin event.rank comm p.from.k s comm q.from.k p.from.enter q.from.enter two_made refl in
    let i_p = instance_of-kept (V event.rank) (W event.rank) p.from.k (comm_of p.from.enter) p.from.enter (begins event.rank) p.from.at in
    let i_q = instance_of-kept (V s) (W s) q.from.k (comm_of q.from.enter) q.from.enter (begins s) q.from.at in
    let origin_v : SameOrigin V (entrance_of event.rank p.from.k p.from.enter) (entrance_of s q.from.k q.from.enter) = record { comm = origin.comm; instance = sym i_p ∙ (origin.instance ∙ i_q); colour = origin.colour } in
    same_made n V event.rank s comm one two p.from q.from is.same origin_v

pub Instances-more : (n : ℕ) (before : List Event) (event : Event) → event.rank < n → Instances n (view_of before)
    → KeepsInstances n before event → Instances n (view_of (before ++ event ∷ []))
unfolding provenance_kept
Instances-more n before event low is keeps =
    let V : ℕ → View = view_of before in
    let W : ℕ → View = view_of (before ++ event ∷ []) in
    let begins : Begins V W = Begins-more before (event ∷ []) in
    record {
      same = record {
        agrees = λ r s comm instance one two p q. elim (enter_cases n before event r comm instance one p) [
          | inl old ↦ elim (enter_cases n before event s comm instance two q) [
            | inl old_two ↦ is.same.agrees r s comm instance one two old old_two
            | inr new ↦ (
                let there : enter_at n (V r) comm (count_on comm (starts_of (V event.rank))) ≡ Some one = rw new.1.at at old in
                rw new.1.call_is (agree-sym one.call event.call ∙ keeps.agreed comm r one new.1.start new.1.on there))
          ]
          | inr new ↦ elim (enter_cases n before event s comm instance two q) [
            | inl old ↦ (
                let there : enter_at n (V s) comm (count_on comm (starts_of (V event.rank))) ≡ Some two = rw new.1.at at old in
                rw new.1.call_is (keeps.agreed comm s two new.1.start new.1.on there))
            | inr other ↦ rw (new.1.call_is, other.1.call_is) (agree-refl event.call (enter_on comm event.call new.1.on))
          ]
        ];
        joins = λ r comm instance one p. elim (enter_cases n before event r comm instance one p) [
          | inl old ↦ is.same.joins r comm instance one old
          | inr new ↦ (
              let has = keeps.enters comm new.1.start new.1.on in
              let F : ℕ → Type 0 = λ x. IsEnterOf one.call has.members x in
              let G : Call → Type 0 = λ c. IsEnterOf c has.members event.rank in
              record { members = has.members; known = new.1.members_are ∙ has.known; form = subst F new.0 (subst G (sym new.1.call_is) has.form) })
        ];
        members = λ r s comm one two p q. elim (known_cases n before event r comm one p) [
          | inl old ↦ elim (known_cases n before event s comm two q) [
            | inl old_two ↦ is.same.members r s comm one two old old_two
            | inr new ↦ (let F : ℕ → Type 0 = λ x. known_in n (W x) comm ≡ Some two in sym (new_members n before event r comm two one is keeps new.1 (subst F new.0 q) old))
          ]
          | inr new ↦ elim (known_cases n before event s comm two q) [
            | inl old ↦ (let F : ℕ → Type 0 = λ x. known_in n (W x) comm ≡ Some one in new_members n before event s comm one two is keeps new.1 (subst F new.0 p) old)
            | inr other ↦ (
                let F : ℕ → Type 0 = λ x. known_in n (W x) comm ≡ Some one in
                let G : ℕ → Type 0 = λ x. known_in n (W x) comm ≡ Some two in
                let e : Some one ≡ Some two = sym (subst F new.0 p) ∙ subst G other.0 q in
                cc)
          ]
        ];
        fine = λ r comm members below p. elim (known_cases n before event r comm members p) [
          | inl old ↦ is.same.fine r comm members below old
          | inr new ↦ (
              let F : ℕ → Type 0 = λ x. known_in n (W x) comm ≡ Some members in
              let G : ℕ → Type 0 = λ x. AreMembers n x members in
              let s = keeps.source comm members new.1 (subst F new.0 p) in
              subst G (sym new.0) (fine_made n V event.rank comm members is.same low s.from))
        ];
      };
      sources = λ r comm members p real. elim (known_cases n before event r comm members p) [
        | inl old ↦ (
            let s = is.sources r comm members old real in
            record {
              from = provenance_kept n V W r comm members begins is.same s.from;
              number = rw (view_of-append before (event ∷ []) r, numbers_of-append (view_of before r) (view_of (event ∷ []) r)) (IsIn-front (comm, s.from.k) (numbers_in_view (V r)) (numbers_in_view (view_of (event ∷ []) r)) s.number);
            })
        | inr new ↦ (
            let F : ℕ → Type 0 = λ x. known_in n (W x) comm ≡ Some members in
            let s = keeps.source comm members new.1 (subst F new.0 p) in
            let G : ℕ → Type 0 = λ x. Sourced n W W x comm members in
            let here : Sourced n W W event.rank comm members = record { from = provenance_kept n V W event.rank comm members begins is.same s.from; number = s.number } in
            subst G (sym new.0) here)
      ];
    }
