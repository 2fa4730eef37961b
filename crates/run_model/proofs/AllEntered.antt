-- Where all members of a communicator have entered an instance of a Split or Dup, what it makes is listed.
use Rattle.std.proofs.Common.{◌≡◌, ◌++◌, ◌<◌, ◌==◌, ◌∙◌, ◌∷◌, ◌⊎◌, Err, List, None, Ok, Option, Result, Some, [], ap, arith, false, get_or, inl, inr, length, refl, subst, sym, true, ℕ, ℤ}
use Rattle.std.proofs.lemmas.Bool.{cases_lt, eq-eqb, eqb-true, or_cases, or_left, or_right}
use Rattle.mpi_call.specs.declared.call.Call.{Call}
use Rattle.mpi_call.specs.declared.call.Call.TheVariants.{Enter}
use Rattle.mpi_call.specs.Calls.{comm_of, ints_of, is_enter, makes}
use Rattle.mpi_call.specs.Collectives.{agree, colour_of, is_member, is_uncoloured, needs, place_of}
use Rattle.mpi_call.proofs.MemberLemmas.{at_place_of, place_of-within}
use Rattle.mpi_call.proofs.NeedsLemmas.{needs-coloured}
use Rattle.run_model.specs.declared.event.Event.{Event}
use Rattle.run_model.specs.Communicators.{Entered, count_on, enter_at, instance_of, is_on, known_first, known_in, members_for_rank, or_none}
use Rattle.run_model.specs.Inputs.{gather, push_ints, with_ints}
use Rattle.run_model.specs.Numbers.{Origin, communicators_of, entered_by_all, made_at, origins_from}
use Rattle.run_model.specs.Views.{Next, View, is_start, starts_of, view_of}
use Rattle.run_model.proofs.Enters.{NewEnter, enter_back, gather-needed, members_kept, own_at}
use Rattle.run_model.proofs.Instances.{SameInstances, gather-at, gather-length, on_own}
use Rattle.run_model.proofs.Numbered.{AllMade, communicators_of-push}
use Rattle.run_model.proofs.OriginLists.{IsListed, listed_back, listed_front, made_listed}
use Rattle.run_model.proofs.Prefixes.{Begins-more}
use Rattle.run_model.proofs.RunLaws.{Kept}
use Rattle.run_model.proofs.StartLemmas.{enter_at-kept}
use Rattle.run_model.proofs.Views.{test_cases, view_of-mine, view_of-other}

abbrev pub AllListed : ℕ → List Event → Type 0
AllListed n events =
    (m comm instance : ℕ) (one : Entered) (members : List ℕ) (inputs : List (List ℤ))
    → enter_at n (view_of events m) comm instance ≡ Some one → one.members ≡ Some members
    → makes one.call ≡ true → is_uncoloured one.call ≡ false
    → entered_by_all n (view_of events) comm instance members ≡ Ok inputs
    → IsListed (communicators_of n events) (record { comm = comm; instance = instance; colour = colour_of one.call })

makes_enter : (call : Call) → makes call ≡ true → is_enter call ≡ true
makes_enter (Enter comm kind root op count ints) h = refl
makes_enter call h = absurd (cc)

on_comm : (comm : ℕ) (call : Call) → is_on comm call ≡ true → comm_of call ≡ comm
on_comm comm (Enter c kind root op count ints) h = eqb-true c comm h
on_comm comm call h = absurd (cc)

result_cases : {A B : Type 0} (r : Result A B) → ((x : A) × (r ≡ Ok x)) ⊎ ((y : B) × (r ≡ Err y))
result_cases (Ok x) = inl (x, refl)
result_cases (Err y) = inr (y, refl)

-- what is gathered of all
pushed_ok : (ints : List ℤ) (rest : Result (List (List ℤ)) ℕ) (inputs : List (List ℤ)) → push_ints ints rest ≡ Ok inputs → (others : List (List ℤ)) × (rest ≡ Ok others)
pushed_ok ints (Ok others) inputs h = (others, refl)
pushed_ok ints (Err m) inputs h = absurd (cc)

pushed_err : (ints : List ℤ) (rest : Result (List (List ℤ)) ℕ) (m : ℕ) → push_ints ints rest ≡ Err m → rest ≡ Err m
pushed_err ints (Ok others) m h = absurd (cc)
pushed_err ints (Err other) m h = h

with_cases : (x : ℕ) (found : Option Entered) (rest : Result (List (List ℤ)) ℕ) (inputs : List (List ℤ)) → with_ints x found rest ≡ Ok inputs
    → (one : Entered) × (found ≡ Some one) × (push_ints (ints_of one.call) rest ≡ Ok inputs)
with_cases x (Some one) rest inputs h = (one, refl, h)
with_cases x None rest inputs h = absurd (cc)

with_missing : (x : ℕ) (found : Option Entered) (rest : Result (List (List ℤ)) ℕ) (m : ℕ) → with_ints x found rest ≡ Err m
    → ((found ≡ None) × (x ≡ m)) ⊎ (rest ≡ Err m)
with_missing x (Some one) rest m h = inr (pushed_err (ints_of one.call) rest m h)
with_missing x None rest m h = inl (refl, cc)

all_found : (find : ℕ → Option Entered) (members : List ℕ) (inputs : List (List ℤ)) (m : ℕ) → gather (λ x. true) find members ≡ Ok inputs
    → is_member members m ≡ true → (one : Entered) × (find m ≡ Some one)
all_found find [] inputs m h there = absurd (cc)
all_found find (x ∷ members) inputs m h there =
    let some = with_cases x (find x) (gather (λ x. true) find members) inputs h in
    elim (or_cases (x == m) (is_member members m) there) [
      | inl t ↦ (some.0, (let F : ℕ → Type 0 = λ y. find y ≡ Some some.0 in subst F (eqb-true x m t) some.1))
      | inr t ↦ (
          let rest = pushed_ok (ints_of some.0.call) (gather (λ x. true) find members) inputs some.2 in
          all_found find members rest.0 m rest.1 t)
    ]

one_missing : (find : ℕ → Option Entered) (members : List ℕ) (m : ℕ) → gather (λ x. true) find members ≡ Err m
    → (find m ≡ None) × (is_member members m ≡ true)
one_missing find [] m h = absurd (cc)
one_missing find (x ∷ members) m h =
    elim (with_missing x (find x) (gather (λ x. true) find members) m h) [
      | inl here ↦ (
        (let F : ℕ → Type 0 = λ y. find y ≡ None in subst F here.1 here.0),
        or_left (x == m) (is_member members m) (eq-eqb x m here.1),
      )
      | inr later ↦ (
          let rest = one_missing find members m later in
          (rest.0, or_right (x == m) (is_member members m) rest.1))
    ]

pub all_made : (n : ℕ) (before : List Event) → SameInstances n (view_of before) → AllListed n before → AllMade n before
all_made n before same listed me k enter inputs at mk col gathered =
    let V : ℕ → View = view_of before in
    let C : ℕ = comm_of enter in
    let I : ℕ = instance_of (V me) k C in
    let find : ℕ → Option Entered = λ m. enter_at n (V m) C I in
    let mine = own_at C 0 (known_first n C) (V me) k enter at (on_own enter (makes_enter enter mk)) in
    let join = same.joins me C I mine.0 mine.1 in
    let known : known_in n (V me) C ≡ Some join.members = members_kept C 0 (known_first n C) (V me) I mine.0 join.members mine.1 join.known in
    let members : members_for_rank n (V me) C ≡ join.members = ap or_none known in
    let F : List ℕ → Type 0 = λ l. gather (needs enter l me) find l ≡ Ok inputs in
    let g : gather (needs enter join.members me) find join.members ≡ Ok inputs = subst F members gathered in
    let everyone = gather-needed (needs enter join.members me) (λ x. true) find join.members (λ x. needs-coloured enter join.members me x mk col) in
    let G : Call → Type 0 = λ c. makes c ≡ true in
    let H : Call → Type 0 = λ c. is_uncoloured c ≡ false in
    let found = listed me C I mine.0 join.members inputs mine.1 join.known (subst G (sym mine.2) mk) (subst H (sym mine.2) col) (sym everyone ∙ g) in
    let K : Call → Type 0 = λ c. IsListed (communicators_of n before) (record { comm = C; instance = I; colour = colour_of c }) in
    subst K mine.2 found

made_is : (n : ℕ) (before : List Event) (event : Event) (comm instance : ℕ) (members : List ℕ) (inputs : List (List ℤ))
    → is_start (event.call, event.reply) ≡ true → comm_of event.call ≡ comm → instance ≡ count_on comm (starts_of (view_of before event.rank))
    → members_for_rank n (view_of before event.rank) comm ≡ members
    → entered_by_all n (view_of (before ++ event ∷ [])) comm instance members ≡ Ok inputs
    → made_at n before event ≡ origins_from (Ok inputs) instance event.call
made_is n before event comm instance members inputs start on at mem all =
    let own : View = view_of before event.rank in
    let W : ℕ → View = view_of (before ++ event ∷ []) in
    let made : ℕ → ℕ → List ℕ → List Origin = λ c i l. origins_from (entered_by_all n W c i l) i event.call in
    let opened : made_at n before event ≡ made (comm_of event.call) (count_on (comm_of event.call) (starts_of own)) (members_for_rank n own (comm_of event.call)) = rw start in
    opened
    ∙ (ap (λ c. made c (count_on c (starts_of own)) (members_for_rank n own c)) on
    ∙ (ap (λ i. made comm i (members_for_rank n own comm)) (sym at)
    ∙ (ap (made comm instance) mem
    ∙ ap (λ r. origins_from r instance event.call) all)))

-- the Enter with which all have entered lists what it makes
last_lists : (n : ℕ) (before : List Event) (event : Event) (m comm instance : ℕ) (one entered : Entered) (members : List ℕ) (inputs : List (List ℤ))
    → SameInstances n (view_of (before ++ event ∷ []))
    → enter_at n (view_of (before ++ event ∷ []) event.rank) comm instance ≡ Some entered
    → enter_at n (view_of before event.rank) comm instance ≡ None
    → enter_at n (view_of (before ++ event ∷ []) m) comm instance ≡ Some one
    → known_in n (view_of (before ++ event ∷ []) m) comm ≡ Some members → is_member members m ≡ true
    → makes one.call ≡ true → is_uncoloured one.call ≡ false
    → entered_by_all n (view_of (before ++ event ∷ [])) comm instance members ≡ Ok inputs
    → IsListed (made_at n before event) (record { comm = comm; instance = instance; colour = colour_of one.call })
last_lists n before event m comm instance one entered members inputs same there none at known has_me mk col all =
    let W : ℕ → View = view_of (before ++ event ∷ []) in
    let own : View = view_of before event.rank in
    let call : Call = event.call in
    let later : ℕ → Option Entered = λ x. enter_at n (W x) comm instance in
    let pushed : enter_at n (own ++ (event.call, event.reply) ∷ []) comm instance ≡ Some entered = rw (view_of-mine before event event.rank refl) at there in
    let new : NewEnter n own event.call event.reply comm instance entered = elim (enter_back n own event.call event.reply comm instance entered pushed) [
      | inl was ↦ (let no : None ≡ Some entered = sym none ∙ was in absurd (cc))
      | inr new ↦ new
    ] in
    let join = same.joins event.rank comm instance entered there in
    let known_own : known_in n own comm ≡ Some join.members = sym new.members_are ∙ join.known in
    let known_rank : known_in n (W event.rank) comm ≡ Some join.members = members_kept comm 0 (known_first n comm) (W event.rank) instance entered join.members there join.known in
    let equal : join.members ≡ members = same.members event.rank m comm join.members members known_rank known in
    let on : comm_of call ≡ comm = on_comm comm call new.on in
    let made : made_at n before event ≡ origins_from (Ok inputs) instance call =
    made_is n before event comm instance members inputs new.start on new.at (ap or_none known_own ∙ equal) all in
    let agreed : agree call one.call ≡ true = (let F : Call → Type 0 = λ c. agree c one.call ≡ true in subst F new.call_is (same.agrees event.rank m comm instance entered one there at)) in
    let place : ℕ = place_of members m in
    let within : place < length members = place_of-within members m has_me in
    let found = gather-at (λ x. true) later members inputs place all within refl in
    let here : later m ≡ Some found.0 = sym (ap later (at_place_of members m has_me)) ∙ found.1 in
    let both : Some found.0 ≡ Some one = sym here ∙ at in
    let same_one : found.0 ≡ one = cc in
    let entered_ints : get_or inputs place [] ≡ ints_of one.call = found.2 ∙ ap (λ (x : Entered). ints_of x.call) same_one in
    let count : length inputs ≡ length members = gather-length (λ x. true) later members inputs all in
    let short : place < length inputs = omega arith in
    let listed = made_listed call one.call instance place inputs agreed mk col short entered_ints in
    let G : ℕ → Type 0 = λ c. IsListed (origins_from (Ok inputs) instance call) (record { comm = c; instance = instance; colour = colour_of one.call }) in
    let F : List Origin → Type 0 = λ l. IsListed l (record { comm = comm; instance = instance; colour = colour_of one.call }) in
    subst F (sym made) (subst G on listed)

-- one more event
pub listed_more : (next : Next) (n : ℕ) (before : List Event) (event : Event) → Kept next n (before ++ event ∷ []) → AllListed n before
    → AllListed n (before ++ event ∷ [])
listed_more next n before event kept listed m comm instance one members inputs at mem mk col all =
    let V : ℕ → View = view_of before in
    let W : ℕ → View = view_of (before ++ event ∷ []) in
    let own : View = view_of before event.rank in
    let same = kept.instances.same in
    let find : ℕ → Option Entered = λ x. enter_at n (V x) comm instance in
    let later : ℕ → Option Entered = λ x. enter_at n (W x) comm instance in
    let o : Origin = record { comm = comm; instance = instance; colour = colour_of one.call } in
    let known : known_in n (W m) comm ≡ Some members = members_kept comm 0 (known_first n comm) (W m) instance one members at mem in
    let below : m < n = elim (cases_lt m n) [
      | inl less ↦ less
      | inr above ↦ (let no : None ≡ Some one = rw (kept.below.empty m above) at at in absurd (cc))
    ] in
    let has_me : is_member members m ≡ true = (same.fine m comm members below known).has_me in
    let pushed = communicators_of-push n before event in
    let F : List Origin → Type 0 = λ l. IsListed l o in
    subst F (sym pushed) (elim (result_cases (entered_by_all n V comm instance members)) [
      | inl ok ↦
          let found = all_found find members ok.0 m ok.1 has_me in
          let grown : later m ≡ Some found.0 = (enter_at-kept n (V m) (W m) comm instance (Begins-more before (event ∷ []) m)).kept found.0 found.1 in
          let both : Some found.0 ≡ Some one = sym grown ∙ at in
          let same_one : found.0 ≡ one = cc in
          let was : find m ≡ Some one = found.1 ∙ ap (λ (x : Entered). Some x) same_one in
          listed_front (communicators_of n before) (made_at n before event) o (listed m comm instance one members ok.0 was mem mk col ok.1)
      | inr err ↦
          let missing = one_missing find members err.0 err.1 in
          let there = all_found later members inputs err.0 all missing.1 in
          let rank : event.rank ≡ err.0 = elim (test_cases (event.rank == err.0)) [
            | inl t ↦ eqb-true event.rank err.0 t
            | inr t ↦ (
                let stays : W err.0 ≡ V err.0 = view_of-other before event err.0 t in
                let no : None ≡ Some there.0 = sym missing.0 ∙ (sym (ap (λ (v : View). enter_at n v comm instance) stays) ∙ there.1) in
                absurd (cc))
          ] in
          listed_back (communicators_of n before) (made_at n before event) o
          (last_lists n before event m comm instance one there.0 members inputs same
          ((let G : ℕ → Type 0 = λ x. later x ≡ Some there.0 in subst G (sym rank) there.1))
          ((let G : ℕ → Type 0 = λ x. find x ≡ None in subst G (sym rank) missing.0))
          at known has_me mk col all)
    ])
